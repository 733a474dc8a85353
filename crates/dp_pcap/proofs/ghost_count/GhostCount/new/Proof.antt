-- A new count: it takes no bytes, so the walk makes it of nothing, with the number 0.
use Rattle.std.proofs.Common.{[], ◌∷◌, refl}
use Rattle.std.proofs.raw_atomic.Walks.{proved}
use base.Fml.{ftrue}
use mir.Val.{vstruct, vnil}
use types.Kit.{‵, raw, ◌$◌, ◌∵◌, !, qed, done, use0, drop, group, suffices}
use types.Run.{enter, no_more, returns}
use types.Part.{agg}
use types.ByLocal.{alloc_all, pass_all, free_all, look_at, sets}
use denote.Steps.{nothing}
use denote.Triple.Entry.{on_entry}
use denote.Triple.Walked.{Stays, says, ends_at}
use Rattle.dp_pcap.specs.contracts.ghost_count.GhostCount.{the_row}
use Rattle.dp_pcap.specs.contracts.ghost_count.GhostCount.new as f
use Rattle.dp_pcap.proofs.ghost_count.GhostCount.new.Statement.{statement}
use Rattle.dp_pcap.proofs.ghost_count.GhostCount.new.Code as code
use Rattle.dp_pcap.proofs.CountLemmas.{count_of_nothing}

abbrev stayed : Stays f.ended.signature.params f.ended.kept
stayed = tt

pub new_spec : {M : Type 1} → statement M
new_spec 𝓤 𝓛 𝓜 𝓡 wired =
    let c = f.clauses 𝓛 𝓜.mem 𝓡.returns in
    proved 𝓛 f.ended stayed c 𝓜 𝓡 tt f.Key.name code.function (code.unfolded 𝓤 𝓛.H 𝓜 𝓡 wired)
    (λ κs. tt) (λ κs. tt) (λ κs qs bounds a _ are.
    qed 𝓛 (raw (on_entry 𝓛 f.signature κs qs a tt) ∷ ‵ ftrue ∷ []) ∵ drop ! $ drop ! $
    enter ! _ _ _ _ _ $ alloc_all ! (λ l. pass_all ! refl tt $
    sets ! (agg ! (no_more !)) refl (tt, tt) $
    returns ! (look_at ! 0 refl) $ free_all ! refl $
    suffices ! _ (ends_at 𝓛 f.ended stayed c ((κs, qs, bounds, a, tt), tt) (vstruct vnil) (record { count = 0 }) tt tt) $ says ! refl $
    use0 𝓛 (‵ (the_row.own_val (record { count = 0 }) (vstruct vnil ∷ []))) (count_of_nothing 𝓛 0) $ nothing ! $ nothing ! $ group ! 3 $ done !))

-- One more call: the walk reads nothing of the old count, and makes a new one of nothing with its number.
use Rattle.std.proofs.Common.{ℕ, ◌+◌, [], ◌∷◌, refl}
use Rattle.std.proofs.raw_atomic.Walks.{proved}
use base.Fml.{ftrue}
use mir.Syntax.{named}
use mir.Val.{vstruct, vnil}
use types.Kit.{‵, raw, ◌⊛◌, ◌$◌, ◌∵◌, !, qed, done, move, keep, use0, split, join, group, suffices}
use types.Run.{enter, no_more, returns}
use types.Part.{agg}
use types.ByLocal.{alloc_all, pass_all, free_all, look_at, sets}
use denote.Exit.{yes}
use denote.RattleType.{owns}
use denote.Ref.{shr_vals, shr_Tells}
use denote.Signature.{Slot, plain, shr_ref_to, types_at}
use denote.Steps.{nothing}
use denote.Triple.Entry.{alive}
use denote.Triple.Walked.{Stays, stay_dropped, Goes-dropped, says, ends_at}
use Rattle.dp_pcap.specs.contracts.ghost_count.GhostCount.{the_row}
use Rattle.dp_pcap.specs.contracts.ghost_count.GhostCount.one_more as f
use Rattle.dp_pcap.proofs.ghost_count.GhostCount.one_more.Statement.{statement}
use Rattle.dp_pcap.proofs.ghost_count.GhostCount.one_more.Code as code
use Rattle.dp_pcap.proofs.CountLemmas.{count_of_nothing}

-- the old count, through a reference
abbrev before : Slot 1
before = shr_ref_to (0 ∷ []) tt (plain (λ _. the_row))

abbrev stayed : Stays f.ended.signature.params f.ended.kept
stayed = (stay_dropped before yes, tt)

pub one_more_spec : {M : Type 1} → statement M
one_more_spec 𝓤 𝓛 𝓜 𝓡 wired =
    let c = f.clauses 𝓛 𝓜.mem 𝓡.returns in
    proved 𝓛 f.ended stayed c 𝓜 𝓡 (Goes-dropped 𝓛 1 before yes (λ κs x w. refl), tt)
    f.Key.name code.function (code.unfolded 𝓤 𝓛.H 𝓜 𝓡 wired)
    (λ κs. (shr_vals, tt)) (λ κs. (shr_Tells (named 0) κs.0 the_row, tt)) (λ κs qs bounds a _ are.
    let passed = owns (types_at f.signature.params κs) a (shr_vals a.0, tt) in
    let more : ℕ = a.0.now.count + 1 in
    qed 𝓛 ((raw (alive 𝓛 f.signature κs qs) ⊛ ‵ passed) ∷ ‵ ftrue ∷ []) ∵ split ! $ keep ! (0 ∷ []) $
    enter ! _ _ _ _ _ $ alloc_all ! (λ l. pass_all ! refl ((tt, tt), tt) $
    sets ! (agg ! (no_more !)) refl (tt, tt) $
    returns ! (look_at ! 0 refl) $ free_all ! refl $
    suffices ! _ (ends_at 𝓛 f.ended stayed c ((κs, qs, bounds, a, (shr_vals a.0, tt)), tt) (vstruct vnil) (record { count = more }) (tt, tt) (tt, tt)) $ says
    ! refl $
    use0 𝓛 (‵ (the_row.own_val (record { count = more }) (vstruct vnil ∷ []))) (count_of_nothing 𝓛 more) $
    nothing ! $ nothing ! $ join ! $ move ! (2 ∷ []) $ group ! 3 $ done !))

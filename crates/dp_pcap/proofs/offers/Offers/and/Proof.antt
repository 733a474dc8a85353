-- One more offer: the walk reads nothing of the old ones, and makes new ones of nothing with their list.
use Rattle.std.proofs.Common.{ℕ, List, [], ◌∷◌, ◌++◌, refl}
use Rattle.std.proofs.raw_atomic.Walks.{proved}
use base.Fml.{ftrue}
use mir.Syntax.{named}
use mir.Val.{vstruct, vnil}
use types.Kit.{‵, raw, ◌⊛◌, ◌$◌, ◌∵◌, !, qed, done, move, keep, use0, split, join, group, suffices}
use types.Run.{enter, no_more, returns}
use types.Part.{agg}
use types.ByLocal.{alloc_all, pass_all, free_all, look_at, sets}
use denote.Builtin.{u8}
use denote.Exit.{yes}
use denote.RattleType.{owns}
use denote.Ref.{shr_vals, shr_Tells}
use denote.Signature.{Slot, plain, shr_ref_to, shr_slice_of, types_at}
use denote.Slice.{shr_slice_vals, shr_slice_Tells}
use denote.Steps.{nothing}
use denote.Triple.Entry.{alive}
use denote.Triple.Walked.{Stays, stay_dropped, Goes-dropped, says, ends_at}
use Rattle.dp_pcap.specs.contracts.offers.Offers.{the_row}
use Rattle.dp_pcap.specs.contracts.offers.Offers.and as f
use Rattle.dp_pcap.proofs.offers.Offers.and.Statement.{statement}
use Rattle.dp_pcap.proofs.offers.Offers.and.Code as code
use Rattle.dp_pcap.proofs.OfferLemmas.{offers_of_nothing}

-- the old offers, through a reference
abbrev before : Slot 2
before = shr_ref_to (0 ∷ []) tt (plain (λ _. the_row))

-- the bytes that are offered
abbrev bytes : Slot 2
bytes = shr_slice_of (1 ∷ []) tt (plain (λ _. u8))

abbrev stayed : Stays f.ended.signature.params f.ended.kept
stayed = (stay_dropped before yes, (stay_dropped bytes yes, tt))

pub and_spec : {M : Type 1} → statement M
and_spec 𝓤 𝓛 𝓜 𝓡 wired =
    let c = f.clauses 𝓛 𝓜.mem 𝓡.returns in
    proved 𝓛 f.ended stayed c 𝓜 𝓡 (Goes-dropped 𝓛 2 before yes (λ κs x w. refl), (Goes-dropped 𝓛 2 bytes yes (λ κs x w. refl), tt))
    f.Key.name code.function (code.unfolded 𝓤 𝓛.H 𝓜 𝓡 wired)
    (λ κs. (shr_vals, (shr_slice_vals, tt))) (λ (old, (piece, _)). (shr_Tells (named 0) old the_row, (shr_slice_Tells (named 1) piece u8, tt)))
    (λ κs qs bounds a _ (_, (((_, (fits, _)), _), _)).
    let (old, (piece, _)) = a in
    let passed = owns (types_at f.signature.params κs) a (shr_vals old, (shr_slice_vals piece, tt)) in
    let more : List (List ℕ) = old.now.pieces ++ piece.now ∷ [] in
    qed 𝓛 ((raw (alive 𝓛 f.signature κs qs) ⊛ ‵ passed) ∷ ‵ ftrue ∷ []) ∵ split ! $ keep ! (0 ∷ []) $
    enter ! _ _ _ _ _ $ alloc_all ! (λ l. pass_all ! refl ((tt, tt), ((tt, (tt, (record { fits = fits }, tt))), tt)) $
    sets ! (agg ! (no_more !)) refl (tt, tt) $
    returns ! (look_at ! 0 refl) $ free_all ! refl $
    suffices ! _ (ends_at 𝓛 f.ended stayed c ((κs, qs, bounds, a, (shr_vals old, (shr_slice_vals piece, tt))), tt) (vstruct vnil) (record { pieces = more })
    (tt, (tt, tt)) (tt, (tt, tt))) $ says ! refl $
    use0 𝓛 (‵ (the_row.own_val (record { pieces = more }) (vstruct vnil ∷ []))) (offers_of_nothing 𝓛 more) $
    nothing ! $ nothing ! $ join ! $ nothing ! $ join ! $ move ! (2 ∷ []) $ group ! 3 $ done !))

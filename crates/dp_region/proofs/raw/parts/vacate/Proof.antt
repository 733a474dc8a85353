-- `vacate`: the vector leaves, and its run stays. Assumes `Logic`.
use Rattle.dp_region.proofs.Steps.{◌≡◌, ℕ, ◌<◌, [], ◌∷◌, ◌++◌, refl, ap, arith, ftrue, fsep, flft, full_share, id⊢, tables, fact, WpFn, ‵, raw, ◌⊛◌, some}
use Rattle.dp_region.proofs.Steps.{later, prop, ◌$◌, ◌∵◌, !, qed, done, move, keep, drop, use0, use1, split, join, fsplit, fjoin, pick, await, regoal}
use Rattle.dp_region.proofs.Steps.{suffices, group, agg, enter, returns, of_opd, and_then, no_more, alloc_all, pass_all, free_all, look_at, get, sets, yes}
use Rattle.dp_region.proofs.Steps.{u8, usize, plain, nothing, heard, Stays, stay_dropped, says, walk_of, ends_at, Goes-blank, proved_at}
use contract.BorrowLft.{◌⊑◌, ⊑_refl}
use contract.Monad.{fact_i}
use base.Logic.{emp}
use types.Kit.{feq_l, flt_l}
use types.ByLocal.{lands_as}
use denote.Exit.{no, left}
use denote.Param.{param}
use denote.Steps.{only}
use denote.Triple.Call.{calls_at}
use denote.Triple.Spec.{triple_of}
use denote.Triple.Table.{framed}
use Rattle.std_alloc.specs.Vec.Ownership.{lodged}
use Rattle.std_alloc.specs.contracts.vec.Vec as Vec
use Rattle.std_alloc.specs.contracts.vec.lodged.Lodged as Lodged
use Rattle.std_alloc.specs.contracts.vec.lodged.LodgedAllocator.TheImpl as allocator
use Rattle.std_alloc.specs.contracts.vec.lodged.Vec+T+Lodged.dislodge as callee
use Rattle.std_alloc.proofs.vec.lodged.Vec+T+Lodged.dislodge.Met.{met}
use Rattle.dp_region.specs.Ownership.{run_owns}
use Rattle.dp_region.proofs.Lodging.{moves_out}
use Rattle.dp_region.proofs.Rows.{byte_laws, Lodger, lodger_laws}
use Rattle.dp_region.proofs.Words.{bare, told, hold}
use Rattle.dp_region.specs.contracts.raw.Run as Run
use Rattle.dp_region.specs.contracts.raw.parts.vacate as f
use Rattle.dp_region.proofs.raw.parts.vacate.Statement.{statement}
use Rattle.dp_region.proofs.raw.parts.vacate.Code as code

abbrev stayed : Stays f.ended.signature.params f.ended.kept
stayed = (stay_dropped (plain (λ _. Lodger)) yes, tt)

pub vacate_spec : {M : Type 1} → statement M
vacate_spec 𝓤 𝓛 𝓜 𝓡 wired =
    let c = f.clauses 𝓛 𝓜.mem 𝓡.returns in let W = walk_of 𝓛 f.ended stayed c in let 𝓣 = tables 𝓤 𝓛.H 𝓜 𝓡 𝓡.env in
    proved_at 𝓛 f.ended stayed c 𝓜 𝓡 (Goes-blank 𝓛 0 (plain (λ _. Lodger)) yes (λ κs x z. tt), tt) f.Key.name code.function (code.unfolded 𝓤 𝓛.H 𝓜 𝓡 wired)
    (λ y are.
    let (_, _, _, args, words) = y.0 in let v = args.0 in let out : (Run.the_row).Denot = record { start = v.ptr; bytes = v.items } in
    qed 𝓛 ((‵ ftrue ⊛ ‵ (Lodger.own_val v words.0) ⊛ ‵ ftrue) ∷ raw (fact 𝓤 (0 < v.len)) ∷ []) ∵ move ! (1 ∷ []) $ heard ! _ (λ filled.
    split ! $ move ! (1 ∷ []) $ split ! $ keep ! (0 ∷ []) $ told ! Lodger lodger_laws v words.0 (λ u is fits.
    regoal ! (λ us. prop (WpFn 𝓤 𝓛.H 𝓣.C 𝓣.Λ code.function (us ++ []) (W.post y))) is refl $
    enter ! _ _ _ _ _ $ alloc_all ! (λ l. pass_all ! refl (fits, tt) $ sets ! (of_opd ! (get ! refl)) refl fits $
    let G = triple_of 𝓛 (callee.signature u8) (callee.spec u8 𝓛 𝓜.mem 𝓡.returns) in
    let z : G.Ghost = ((([], tt), (full_share, tt), tt, (v, tt), (u ∷ [], tt)), tt) in
    nothing ! $ use0 𝓛 (raw (fact 𝓤 ([] ⊑ []))) (fact_i 𝓤 ([] ⊑ []) (emp 𝓤) (⊑_refl [])) $ join ! $
    nothing ! $ move ! (2 ∷ 0 ∷ []) $ fjoin ! $ nothing ! $ use0 𝓛 (‵ (flft [] full_share)) (𝓛.lfts.lft-nil full_share) $ join ! $ join ! $ join ! $
    use1 𝓛 (raw (G.pre z)) (id⊢ 𝓤 _) $
    calls_at ! (framed 𝓤 𝓛.H 𝓜 𝓣) G (met 𝓤 𝓛 𝓜 𝓡 (code.calls-std_alloc::vec::lodged::Vec+T+Lodged::dislodge 𝓡.env wired) u8 byte_laws) z
    (and_then ! (get ! refl) (no_more !)) (λ w.
    use1 𝓛 (later (some (λ (n : ℕ). ((‵ (flft [] full_share) ⊛ ‵ ftrue) ⊛ ‵ (usize.own_val n (w ∷ []))) ⊛
    some (λ (ws : Unit {0} × Unit {0}). ‵ (fsep (left ((Vec.the_row (param 0 u8) Lodged.the_row allocator.ghosts).exit no) v ws.0) ftrue) ⊛ raw
    (fact 𝓤 (n ≡ v.len)) ⊛ ‵ (lodged u8 v.ptr v.len v.cap v.items))))) (id⊢ 𝓤 _) $
    await ! tt $ pick ! (λ n. split ! $ split ! $ drop ! $ fsplit ! $ feq_l !
    (λ word. flt_l ! (λ small. pick ! (λ ws. split ! $ drop ! $ split ! $ heard ! _ (λ same.
    use1 𝓛 (‵ (run_owns v.ptr v.items)) (moves_out 𝓛 v.items v.len v.ok.0 v.ptr v.cap filled (omega (arith, v.ok.1))) $
    lands_as ! (ap only word) refl (tt, record { fits = small }) $ sets ! (agg ! (no_more !)) refl (tt, tt) $ hold ! (run_owns v.ptr v.items) $
    returns ! (look_at ! 0 refl) $ free_all ! refl $
    suffices ! _ (ends_at 𝓛 f.ended stayed c y bare out (tt, tt) (tt, tt)) $ says ! (refl, refl) $
    nothing ! $ nothing ! $ join ! $ nothing ! $ group ! 3 $ done !))))))))))

-- `house`: the run moves into a lodged vector. Assumes `Logic`.
use Rattle.dp_region.proofs.Steps.{◌≡◌, ℕ, ◌^◌, ◌<◌, ◌≤◌, List, [], ◌∷◌, length, refl, sym, ap, subst, arith, w64, seq, assign, place, rv_opd, copy, return}
use Rattle.dp_region.proofs.Steps.{Val, vint, vptr, ftrue, fsep, flft, full_share, id⊢, never, tables, fact, WpFn, ‵, raw, ◌⊛◌, some, later, prop, at_ret}
use Rattle.dp_region.proofs.Steps.{◌$◌, ◌∵◌, !, qed, done, move, keep, drop, use0, use1, split, join, fjoin, feq_i, flt_i, pick, await, rewrite, regoal}
use Rattle.dp_region.proofs.Steps.{suffices, group, enter, returns, of_opd, and_then, no_more, first, blocks, exec, alloc_all, pass_all, free_all, look_at}
use Rattle.dp_region.proofs.Steps.{get, sets, env, yes, u8, usize, RawPtr, Ptr, block_ptr, uint_vals, uint_Tells, rawptr_vals, rawptr_Tells, plain, nothing}
use Rattle.dp_region.proofs.Steps.{heard, Stays, stay_dropped, says, walk_of, ends_at, Goes-blank, proved}
use contract.BorrowLft.{◌⊑◌, ⊑_refl}
use contract.Monad.{fact_i}
use base.Logic.{emp}
use types.ByLocal.{lands_last}
use denote.Param.{layout}
use denote.RawPtr.{ptr_val, in_a_block}
use denote.Steps.{only}
use denote.Triple.Call.{calls_at_last}
use denote.Triple.Spec.{triple_of}
use denote.Triple.Table.{framed}
use Rattle.std.proofs.Common.{Vec}
use Rattle.std_alloc.specs.declared.vec.lodged.Lodged.{Lodged}
use Rattle.std_alloc.specs.Vec.Ownership.{lodged}
use Rattle.std_alloc.specs.contracts.vec.lodge as callee
use Rattle.std_alloc.proofs.vec.lodge.Met.{met}
use Rattle.dp_region.specs.Ownership.{run_owns}
use Rattle.dp_region.proofs.Lodging.{moves_in}
use Rattle.dp_region.proofs.Rows.{byte_laws, Lodger, lodger_laws}
use Rattle.dp_region.proofs.Words.{Fits, bare, told, release}
use Rattle.dp_region.specs.contracts.raw.Run as Run
use Rattle.dp_region.proofs.raw.Run.TheLaws as run_laws
use Rattle.dp_region.specs.contracts.raw.parts.house as f
use Rattle.dp_region.proofs.raw.parts.house.Statement.{statement}
use Rattle.dp_region.proofs.raw.parts.house.Code as code

abbrev stayed : Stays f.ended.signature.params f.ended.kept
stayed = (stay_dropped (plain (λ _. Run.the_row)) yes, (stay_dropped (plain (λ _. RawPtr)) yes, (stay_dropped (plain (λ _. usize)) yes, tt)))

pub house_spec : {M : Type 1} → statement M
house_spec 𝓤 𝓛 𝓜 𝓡 wired =
    let c = f.clauses 𝓛 𝓜.mem 𝓡.returns in let W = walk_of 𝓛 f.ended stayed c in let 𝓣 = tables 𝓤 𝓛.H 𝓜 𝓡 𝓡.env in
    proved 𝓛 f.ended stayed c 𝓜 𝓡 (
      Goes-blank 𝓛 0 (plain (λ _. Run.the_row)) yes (λ κs x z. tt),
      (Goes-blank 𝓛 0 (plain (λ _. RawPtr)) yes (λ κs x z. tt), (Goes-blank 𝓛 0 (plain (λ _. usize)) yes (λ κs x z. tt), tt)),
    )
    f.Key.name code.function (code.unfolded 𝓤 𝓛.H 𝓜 𝓡 wired)
    (λ κs. ((λ r. run_laws.lowered r ∷ []), (rawptr_vals, (uint_vals w64, tt)))) (λ κs. (run_laws.lowers.val_is, (rawptr_Tells, (uint_Tells w64, tt))))
    (λ κs qs bounds a g are.
    let r = a.0 in let xs = r.bytes in let n = a.1.1.0 in let word = vint w64 n ∷ [] in
    let y : Ptr → W.Ghost = λ p. ((κs, qs, bounds, (r, (p, (n, tt))), (bare ∷ [], (rawptr_vals p, (word, tt)))), g) in
    qed 𝓛 ((‵ ftrue ⊛ ‵ (Run.the_row.own_val r (bare ∷ [])) ⊛ ‵ (RawPtr.own_val a.1.0 (rawptr_vals a.1.0)) ⊛ ‵ (usize.own_val n word) ⊛ ‵ ftrue)
    ∷ raw (fact 𝓤 ((r.start ≡ a.1.0) × (length xs ≡ n) × (0 < n) × (n < 2 ^ 63))) ∷ []) ∵
    move ! (1 ∷ []) $ heard ! _ (λ asked. let (begins, long, filled, small) = asked in split ! $ move ! (1 ∷ []) $ split ! $ keep ! (0 ∷ []) $
    release ! (run_owns r.start xs) $ rewrite ! 0 (λ p. ‵ (run_owns p xs)) begins refl $ in_a_block ! a.1.0 (λ p. run_owns p xs) (id⊢ 𝓤 (never 𝓤)) (λ b o at.
    let p = block_ptr b o in
    regoal ! (λ q. prop (WpFn 𝓤 𝓛.H 𝓣.C 𝓣.Λ code.function (bare ∷ ptr_val q ∷ word) (W.post (y q)))) at refl $
    enter ! _ _ _ _ _ $ alloc_all ! (λ l. pass_all ! refl ((tt, tt), ((tt, tt), ((tt, record { fits = are.1.1.0.1 }), tt))) $ first ! $ blocks ! $
    let G = triple_of 𝓛 (callee.signature u8) (callee.spec u8 𝓛 𝓜.mem 𝓡.returns) in
    let z : G.Ghost = ((([], tt), (full_share, tt), tt, (p, (n, (n, tt))), (vptr b o ∷ [], (word, (word, tt)))), xs) in
    let Asks : Type 0 = (n ≡ length xs) × (n ≤ n) × (n < 2 ^ 63) in let asks : Asks = (sym long, omega arith, small) in
    use1 𝓛 (‵ (lodged u8 p n n xs)) (moves_in 𝓛 xs n (sym long) b o filled small) $
    use0 𝓛 (raw (fact 𝓤 Asks)) (fact_i 𝓤 Asks (emp 𝓤) asks) $ join ! $ use0 𝓛 (raw (fact 𝓤 ([] ⊑ []))) (fact_i 𝓤 ([] ⊑ []) (emp 𝓤) (⊑_refl [])) $ join ! $
    -- [what `lodge` asks]
    nothing ! $ flt_i ! n (2 ^ 64) (omega arith) $ feq_i ! (List Val) word word refl $ fjoin ! $ fjoin ! $
    flt_i ! n (2 ^ 64) (omega arith) $ feq_i ! (List Val) word word refl $ fjoin ! $ fjoin ! $ feq_i ! (List Val) (vptr b o ∷ []) (vptr b o ∷ []) refl $ fjoin
    ! $
    nothing ! $ use0 𝓛 (‵ (flft [] full_share)) (𝓛.lfts.lft-nil full_share) $ join ! $ join ! $ join ! $
    use1 𝓛 (raw (G.pre z)) (id⊢ 𝓤 _) $
    calls_at_last ! (framed 𝓤 𝓛.H 𝓜 𝓣) G (met 𝓤 𝓛 𝓜 𝓡 (code.calls-std_alloc::vec::lodge 𝓡.env wired) u8 byte_laws) z
    (and_then ! (get ! refl) (and_then ! (get ! refl) (and_then ! (get ! refl) (no_more !)))) (λ v.
    use1 𝓛 (later (some (λ (vec : Vec ℕ Lodged). ((‵ (flft [] full_share) ⊛ ‵ ftrue) ⊛ ‵ (Lodger.own_val vec (v ∷ []))) ⊛
    some (λ (ws : Unit {0} × (Unit {0} × (Unit {0} × Unit {0}))). ‵ (fsep ftrue (fsep ftrue (fsep ftrue ftrue))) ⊛ raw
    (fact 𝓤 ((vec.items ≡ xs) × (vec.len ≡ n) × (vec.cap ≡ n) × (vec.ptr ≡ p))))))) (id⊢ 𝓤 _) $
    await ! tt $ pick ! (λ vec. split ! $ split ! $ drop ! $ move ! (1 ∷ []) $ pick ! (λ ws. split ! $ drop ! $ heard ! _ (λ says_it.
    let (items, len, _, ptr) = says_it in told ! Lodger lodger_laws vec (v ∷ []) (λ u same fits. let v≡u = ap only same in
    let good : Fits (layout Lodger) v = subst (Fits (layout Lodger)) (sym v≡u) fits in
    rewrite ! 0 (λ w. ‵ (Lodger.own_val vec (w ∷ []))) (sym v≡u) refl $ lands_last ! refl good $
    exec ! 𝓣.C 𝓣.Λ (env code.function.locals l) (seq (assign (place 0 []) (rv_opd (copy (place 4 [])))) return) (at_ret _ (W.post (y p))) $
    sets ! (of_opd ! (get ! refl)) refl good $ returns ! (look_at ! 0 refl) $ free_all ! refl $
    suffices ! _ (ends_at 𝓛 f.ended stayed c (y p) v vec (tt, (tt, (tt, tt))) (tt, (tt, (tt, tt)))) $ says ! (items, len, ptr) $
    nothing ! $ nothing ! $ join ! $ nothing ! $ join ! $ nothing ! $ join ! $ nothing ! $ group ! 3 $ done !)))))))))

-- `view`: a shared reference to bytes that are not lent gives a slice of them. Assumes `Logic`.
use Rattle.dp_region.proofs.Steps.{◌≡◌, ◌+◌, ◌*◌, ◌^◌, ◌≤◌, List, [], ◌∷◌, length, refl, sym, ap, arith, w64, seq, assign, place, rv_opd, copy, return, Val}
use Rattle.dp_region.proofs.Steps.{vptr, vint, flft, ftrue, fact, tables, WpFn, ‵, raw, ◌⊛◌, prop, at_ret, ◌$◌, ◌∵◌, !, qed, done, move, keep, drop, use1}
use Rattle.dp_region.proofs.Steps.{split, join, fsplit, fjoin, feq_i, flt_i, regoal, suffices, group, agg, enter, returns, of_opd, and_then, no_more, first}
use Rattle.dp_region.proofs.Steps.{blocks, exec, alloc_all, pass_all, free_all, look_at, get, sets, sets_last, env, yes, u8, usize, RawPtr, Ptr, uint_vals}
use Rattle.dp_region.proofs.Steps.{uint_Tells, rawptr_vals, rawptr_Tells, plain, nothing, heard, Stays, stay_dropped, Goes-dropped, says, walk_of, ends_at}
use Rattle.dp_region.proofs.Steps.{proved}
use mir.Syntax.{named}
use denote.Builtin.{RefOf}
use denote.RawPtr.{ptr_val}
use denote.Opens.{unhide, hide}
use denote.Ref.{ShrRef, shr_vals, shr_Tells}
use denote.Slice.{slice_val, elements_shared}
use Rattle.core.proofs.slots.Runs.{run_long}
use Rattle.dp_region.specs.Spans.{IsUnlent, bytes_in}
use Rattle.dp_region.specs.Ownership.{ptr_at}
use Rattle.dp_region.proofs.Shared.{shown}
use Rattle.dp_region.specs.contracts.raw.cells.Cells as Cells
use Rattle.dp_region.specs.contracts.raw.cells.Cells.view as f
use Rattle.dp_region.proofs.raw.cells.Cells.view.Statement.{statement}
use Rattle.dp_region.proofs.raw.cells.Cells.view.Code as code

abbrev stayed : Stays f.ended.signature.params f.ended.kept
stayed = (
  stay_dropped (RefOf (0 ∷ []) tt (plain (λ _. Cells.the_row)) (λ _. tt)) yes,
  (stay_dropped (plain (λ _. RawPtr)) yes, (stay_dropped (plain (λ _. usize)) yes, (stay_dropped (plain (λ _. usize)) yes, tt))),
)

pub view_spec : {M : Type 1} → statement M
view_spec 𝓤 𝓛 𝓜 𝓡 wired =
    let c = f.clauses 𝓛 𝓜.mem 𝓡.returns in let W = walk_of 𝓛 f.ended stayed c in let 𝓣 = tables 𝓤 𝓛.H 𝓜 𝓡 𝓡.env in
    let size_goes = Goes-dropped 𝓛 1 (plain (λ _. usize)) yes (λ κs x z. refl) in
    proved 𝓛 f.ended stayed c 𝓜 𝓡 (
      Goes-dropped 𝓛 1 (RefOf (0 ∷ []) tt (plain (λ _. Cells.the_row)) (λ _. tt)) yes (λ κs x z. refl),
      (Goes-dropped 𝓛 1 (plain (λ _. RawPtr)) yes (λ κs x z. refl), (size_goes, (size_goes, tt))),
    )
    f.Key.name code.function (code.unfolded 𝓤 𝓛.H 𝓜 𝓡 wired)
    (λ κs. (shr_vals, (rawptr_vals, (uint_vals w64, (uint_vals w64, tt)))))
    (λ κs. (shr_Tells (named 0) κs.0 Cells.the_row, (rawptr_Tells, (uint_Tells w64, (uint_Tells w64, tt))))) (λ κs qs bounds a g are.
    let κ = κs.0 in let d = a.0.now in let h = d.home in let p = a.1.1.0 in let n = a.1.1.1.0 in let b = h.block in let o = h.start + p in
    let ys = bytes_in d.bytes p n in
    let y : Ptr → W.Ghost = λ q. ((κs, qs, bounds, (a.0, (q, (p, (n, tt)))), (shr_vals a.0, (rawptr_vals q, (uint_vals w64 p, (uint_vals w64 n, tt))))), g) in
    qed 𝓛 (((‵ (flft κ qs.0) ⊛ ‵ ftrue) ⊛ ‵ ((ShrRef (named 0) κ Cells.the_row).own_val a.0 (shr_vals a.0)) ⊛ ‵ (RawPtr.own_val a.1.0 (rawptr_vals a.1.0)) ⊛ ‵
    (usize.own_val p (uint_vals w64 p)) ⊛ ‵ (usize.own_val n (uint_vals w64 n)) ⊛ ‵ ftrue)
    ∷ raw (fact 𝓤 ((a.1.0 ≡ ptr_at h p) × (p + n ≤ length d.bytes) × IsUnlent d.lent p n)) ∷ []) ∵
    move ! (1 ∷ []) $ heard ! _ (λ asked. let (begins, fits, free) = asked in let small = d.ok.1 in let long : length ys ≡ n = run_long d.bytes p n fits in
    split ! $ move ! (1 ∷ []) $ split ! $ fsplit ! $ drop ! $ unhide ! $ fsplit ! $ keep ! (1 ∷ 3 ∷ []) $
    -- [what the `&` holds of the bytes; the token]
    use1 𝓛 (‵ (elements_shared u8 ys b o κ)) (shown 𝓛 d.lent b κ p n d.bytes h.start free) $ hide ! $
    flt_i ! (length ys * 1) (2 ^ 63) (omega arith) $ flt_i ! (length ys) (2 ^ 64) (omega arith) $ fjoin ! $
    feq_i ! (List Val) (slice_val (b, o) n ∷ []) (slice_val (b, o) (length ys) ∷ []) (ap (λ k. slice_val (b, o) k ∷ []) (sym long)) $ fjoin ! $ fjoin ! $
    regoal ! (λ q. prop (WpFn 𝓤 𝓛.H 𝓣.C 𝓣.Λ code.function (vptr a.0.ref_ptr.0 a.0.ref_ptr.1 ∷ ptr_val q ∷ vint w64 p ∷ vint w64 n ∷ []) (W.post (y q))))
    begins refl $
    enter ! _ _ _ _ _ $ alloc_all ! (λ l. pass_all ! refl (
      (tt, tt),
      (
        (tt, tt),
        ((tt, record { fits = are.1.1.0.1 }), ((tt, record { fits = are.1.1.1.0.1 }), tt)),
      ),
    ) $
    first ! $ blocks ! $ sets_last ! (agg ! (and_then ! (get ! refl) (and_then ! (get ! refl) (no_more !)))) refl (
      tt,
      (tt, (record { fits = are.1.1.1.0.1 }, tt)),
    ) $
    exec ! 𝓣.C 𝓣.Λ (env code.function.locals l) (seq (assign (place 0 []) (rv_opd (copy (place 5 [])))) return) (at_ret _ (W.post (y (ptr_at h p)))) $
    sets ! (of_opd ! (get ! refl)) refl (tt, (tt, (record { fits = are.1.1.1.0.1 }, tt))) $ returns ! (look_at ! 0 refl) $ free_all ! refl $
    suffices ! _ (ends_at 𝓛 f.ended stayed c (y (ptr_at h p)) (slice_val (b, o) n) (record { ref_ptr = (b, o); now = ys }) (tt, (tt, (tt, (tt, tt)))) (
      tt,
      (tt, (tt, (tt, tt))),
    )) $ says ! refl $
    nothing ! $ nothing ! $ join ! $ nothing ! $ join ! $ nothing ! $ join ! $ nothing ! $ join ! $ move ! (2 ∷ 0 ∷ 1 ∷ []) $ group ! 3 $ done !)))

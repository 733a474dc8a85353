-- Control goes from a label to a later one.
use Rattle.std.proofs.Common.{◌≡◌, ℕ, zero, suc, ◌<◌, ◌≤◌, Bool, true, false, List, [], ◌∷◌, length, set, Option, Some, None, refl, sym, ◌∙◌, inl, inr, subst}
use Rattle.std.proofs.Common.{arith}
use Rattle.std.specs.Prelude.{nat_lt, slice_get, slice_set}
use Rattle.std.specs.List.{list_all}
use Rattle.std.specs.Option.{option_map_or}
use Rattle.std.proofs.lemmas.Bool.{le-leb, ltb-true, and_parts}
use Rattle.std.proofs.lemmas.List.{length-set}
use Rattle.dp_model.specs.declared.row.Row.{Row}
use Rattle.dp_model.specs.declared.row.Lead.{Lead}
use Rattle.dp_model.specs.Rows.{entails, is_well_formed_row}
use Rattle.dp_model.specs.Rules.{Question, row_passes}
use Rattle.dp_model.specs.Laws.Lists.{get_within, all_at, get_set_same}
use Rattle.dp_infer.specs.Joins.{joined, met, reached, passed_on}
use Rattle.dp_infer.proofs.Stronger.{Stronger, stronger, row_test, further, both_are}
use Rattle.dp_infer.proofs.Changes.{AreWellFormed}
use Rattle.dp_infer.proofs.JoinLaws.{rows_join, met_well_formed}
use Rattle.dp_infer.proofs.RowLists.{set_cases, set_before, all_set, passes_at, passes, fits_from}

-- each live row says all that the certificate's does
pub record Fit (q : Question) (rows : List Row) : Type 0 where
  pub below : (k : ℕ) (row : Row) → slice_get rows k ≡ Some row → row.live ≡ true → row_passes q.rows k (entails row) ≡ true

-- what was entailed stays entailed
abbrev pub Grows : List Row → List Row → Type 0
Grows rows rows' = (k : ℕ) (row : Row) → row_passes rows k (entails row) ≡ true → row_passes rows' k (entails row) ≡ true

-- the rows of later labels were joined with others
pub record Step (q : Question) (label : ℕ) (rows rows' : List Row) : Type 0 where
  pub long : length rows' ≡ length rows
  pub fit : Fit q rows'
  pub grows : Grows rows rows'
  pub same : (k : ℕ) → k ≤ label → slice_get rows' k ≡ slice_get rows k

pub no_step : (q : Question) (label : ℕ) (rows : List Row) → Fit q rows → Step q label rows rows
no_step q label rows fit = record { long = refl; fit = fit; grows = λ k row e. e; same = λ k le. refl }

pub two_steps : (q : Question) (label : ℕ) (rows rows' rows'' : List Row) → Step q label rows rows' → Step q label rows' rows'' → Step q label rows rows''
two_steps q label rows rows' rows'' s t = record {
  long = t.long ∙ s.long;
  fit = t.fit;
  grows = λ k row e. t.grows k row (s.grows k row e);
  same = λ k le. t.same k le ∙ s.same k le;
}

-- the row after control reaches a label
record Meets (there row u : Row) : Type 0 where
  pub up : there.live ≡ true → Stronger there (met there row)
  pub here : Stronger row (met there row)
  pub least : Stronger (met there row) u

meets : (there row u : Row) → (there.live ≡ true → Stronger there u) → Stronger row u → AreWellFormed u → Meets there row u
meets there row u old new fits = go there.live refl
  where
    go : (b : Bool) → there.live ≡ b → Meets there row u
    go true e =
        let j = rows_join there row u (old e) new fits in
        let is : met there row ≡ joined there row = rw e refl in
        record {
          up = λ h. subst (λ (r : Row). Stronger there r) (sym is) j.left;
          here = subst (λ (r : Row). Stronger row r) (sym is) j.right;
          least = subst (λ (r : Row). Stronger r u) (sym is) j.least;
        }
    go false e =
        let j = rows_join row row u new new fits in
        let is : met there row ≡ joined row row = rw e refl in
        record {
          up = λ h. absurd (cc (h, e));
          here = subst (λ (r : Row). Stronger row r) (sym is) j.left;
          least = subst (λ (r : Row). Stronger r u) (sym is) j.least;
        }

reached_is : (label : ℕ) (rows : List Row) (lead : Lead) (there : Row) → label < lead.to → slice_get rows lead.to ≡ Some there →
    reached label rows lead ≡ set rows lead.to (met there lead.row)
reached_is label rows lead there lt e =
    let test : nat_lt label lead.to ≡ true = le-leb (suc label) lead.to lt in
    rw (test, e) refl

grow_set : (rows : List Row) (i k : ℕ) (m there row : Row) → slice_get rows i ≡ Some there → (there.live ≡ true → Stronger there m)
    → row_passes rows k (entails row) ≡ true → row_passes (set rows i m) k (entails row) ≡ true
grow_set [] i k m there row e up h = h
grow_set (x ∷ rows) zero zero m there row e up h =
    let same : x ≡ there = cc in
    let s : Stronger row there = subst (λ (r : Row). Stronger row r) same (stronger row x h) in
    row_test row m (further row there m s (up s.other_live))
grow_set (x ∷ rows) zero (suc k) m there row e up h = h
grow_set (x ∷ rows) (suc i) zero m there row e up h = h
grow_set (x ∷ rows) (suc i) (suc k) m there row e up h = grow_set rows i k m there row e up h

pub fit_set : (q : Question) (rows : List Row) (i : ℕ) (m u : Row) → Fit q rows → slice_get q.rows i ≡ Some u → Stronger m u → Fit q (set rows i m)
fit_set q rows i m u fit e s = record {
  below = λ k row g live.
      elim (set_cases rows i k m row g) [
        | inl here ↦
            let at : slice_get q.rows k ≡ Some u = rw here.0 e in
            passes q.rows k row u at (subst (λ (r : Row). Stronger r u) here.1 s)
        | inr other ↦ fit.below k row other live
      ];
}

pub reach_step : (q : Question) (label : ℕ) (rows : List Row) (lead : Lead) → list_all is_well_formed_row q.rows ≡ true → Fit q rows → label < lead.to →
    lead.to < length rows
    → row_passes q.rows lead.to (entails lead.row) ≡ true
    → Step q label rows (reached label rows lead) × (row_passes (reached label rows lead) lead.to (entails lead.row) ≡ true)
reach_step q label rows lead fits fit lt within e =
    let (there, at) = get_within rows lead.to within in
    let (u, at_u, new) = passes_at q.rows lead.to lead.row e in
    let u_fits : AreWellFormed u = fits_from u (all_at is_well_formed_row q.rows lead.to u fits at_u) in
    let m = met there lead.row in
    let old : there.live ≡ true → Stronger there u = λ live.
    let (v, at_v, s) = passes_at q.rows lead.to there (fit.below lead.to there at live) in
    let same : v ≡ u = cc (at_u, at_v) in
    subst (λ (r : Row). Stronger there r) same s in
    let j = meets there lead.row u old new u_fits in
    let rows' = set rows lead.to m in
    let step : Step q label rows rows' = record {
      long = length-set rows lead.to m;
      fit = fit_set q rows lead.to m u fit at_u j.least;
      grows = λ k row h. grow_set rows lead.to k m there row at j.up h;
      same = λ k le. set_before rows lead.to k m (omega arith);
    } in
    let now : row_passes rows' lead.to (entails lead.row) ≡ true = passes rows' lead.to lead.row m (get_set_same rows lead.to m there at) j.here in
    let P : List Row → Type 0 = λ r. Step q label rows r × (row_passes r lead.to (entails lead.row) ≡ true) in
    subst P (sym (reached_is label rows lead there lt at)) (step, now)

-- ---- all successors of an instruction

-- what was entailed of successors stays entailed
pub leads_grow : (rows rows' : List Row) (leads : List Lead) → Grows rows rows' → list_all (λ to. row_passes rows to.to (entails to.row)) leads ≡ true →
    list_all (λ to. row_passes rows' to.to (entails to.row)) leads ≡ true
leads_grow rows rows' [] grows e = refl
leads_grow rows rows' (lead ∷ leads) grows e =
    let (here, rest) = and_parts (row_passes rows lead.to (entails lead.row)) (list_all (λ to. row_passes rows to.to (entails to.row)) leads) e in
    both_are (grows lead.to lead.row here) (leads_grow rows rows' leads grows rest)

pub pass_step : (q : Question) (label : ℕ) (rows : List Row) (leads : List Lead) → list_all is_well_formed_row q.rows ≡ true → Fit q rows
    → list_all (λ to. nat_lt label to.to) leads ≡ true → list_all (λ to. nat_lt to.to (length rows)) leads ≡ true
    → list_all (λ to. row_passes q.rows to.to (entails to.row)) leads ≡ true
    → Step q label rows (passed_on label rows leads) × (list_all (λ to. row_passes (passed_on label rows leads) to.to (entails to.row)) leads ≡ true)
pass_step q label rows [] fits fit later within e = (no_step q label rows fit, refl)
pass_step q label rows (lead ∷ leads) fits fit later within e =
    let (l, ls) = and_parts (nat_lt label lead.to) (list_all (λ to. nat_lt label to.to) leads) later in
    let (w, ws) = and_parts (nat_lt lead.to (length rows)) (list_all (λ to. nat_lt to.to (length rows)) leads) within in
    let (p, ps) = and_parts (row_passes q.rows lead.to (entails lead.row)) (list_all (λ to. row_passes q.rows to.to (entails to.row)) leads) e in
    let (one, here) = reach_step q label rows lead fits fit (ltb-true label lead.to l) (ltb-true lead.to (length rows) w) p in
    let rows' = reached label rows lead in
    let ws' : list_all (λ to. nat_lt to.to (length rows')) leads ≡ true = rw one.long ws in
    let (more, rest) = pass_step q label rows' leads fits one.fit ls ws' ps in
    (two_steps q label rows rows' (passed_on label rows' leads) one more, both_are (more.grows lead.to lead.row here) rest)

-- ---- well formed

reached_well_formed : (label : ℕ) (rows : List Row) (lead : Lead) → list_all is_well_formed_row rows ≡ true →
    list_all is_well_formed_row (reached label rows lead) ≡ true
reached_well_formed label rows lead e = go (nat_lt label lead.to) refl
  where
    at : (o : Option Row) → list_all is_well_formed_row (option_map_or (λ there. slice_set rows lead.to (met there lead.row)) o rows) ≡ true
    at None = e
    at (Some there) = all_set is_well_formed_row rows lead.to (met there lead.row) e (met_well_formed there lead.row)

    go : (b : Bool) → nat_lt label lead.to ≡ b → list_all is_well_formed_row (reached label rows lead) ≡ true
    go true t = rw t (at (slice_get rows lead.to))
    go false t = rw t e

pub passed_well_formed : (label : ℕ) (rows : List Row) (leads : List Lead) → list_all is_well_formed_row rows ≡ true →
    list_all is_well_formed_row (passed_on label rows leads) ≡ true
passed_well_formed label rows [] e = e
passed_well_formed label rows (lead ∷ leads) e = passed_well_formed label (reached label rows lead) leads (reached_well_formed label rows lead e)

-- Rows are passed on through a program, label by label.
use Rattle.std.proofs.Common.{◌≡◌, ℕ, suc, ◌+◌, ◌<◌, Bool, true, false, not, ◌||◌, List, [], ◌∷◌, length, Option, Some, None, refl, sym, ap, ◌∙◌, inl, inr}
use Rattle.std.proofs.Common.{subst, arith}
use Rattle.std.specs.Prelude.{nat_lt, slice_get}
use Rattle.std.specs.List.{list_all, AllZip}
use Rattle.std.specs.Option.{option_map_or}
use Rattle.std.proofs.lemmas.Bool.{and_parts, cases_lt}
use Rattle.std.proofs.lemmas.Option.{slice_get_within}
use Rattle.dp_model.specs.declared.row.Row.{Row}
use Rattle.dp_model.specs.declared.row.Lead.{Lead}
use Rattle.dp_model.specs.declared.instr.Instr.{Instr}
use Rattle.dp_model.specs.Jumps.{IsForward}
use Rattle.dp_model.specs.Rows.{entails, leads, entry_row, is_well_formed_row}
use Rattle.dp_model.specs.Rules.{Question, row_passes, holds_at, holds_if_live, later_rules, IsAccepted}
use Rattle.dp_model.specs.Laws.Lists.{get_within, all_at}
use Rattle.dp_infer.specs.Joins.{passed_on, passed_from, spread}
use Rattle.dp_infer.proofs.Stronger.{Stronger, further, both_are}
use Rattle.dp_infer.proofs.Changes.{AreWellFormed}
use Rattle.dp_infer.proofs.RowsAfter.{StrongerLead, leads_keep, labels_keep, forward_leads}
use Rattle.dp_infer.proofs.RowLists.{passes_at, passes, fits_from}
use Rattle.dp_infer.proofs.Reach.{Fit, Grows, Step, no_step, leads_grow, pass_step, passed_well_formed}
use Rattle.dp_infer.proofs.Accepted.{EachRule, each_rule, each_from}

-- what holds of the rows after all labels below one are passed on, if a certificate is accepted
pub record Sound (q : Question) (rows : List Row) (label : ℕ) : Type 0 where
  pub long : length rows ≡ length q.program
  pub well_formed : list_all is_well_formed_row rows ≡ true
  pub fit : Fit q rows
  pub begins : option_map_or (λ row. row_passes rows 0 (entails row)) (entry_row q.env q.entry) false ≡ true
  pub done : (k : ℕ) → k < label → (i : Instr) (row : Row) → slice_get q.program k ≡ Some i → slice_get rows k ≡ Some row → row.live ≡ true
      → list_all (λ to. row_passes rows to.to (entails to.row)) (leads q.env k row i) ≡ true

-- ---- what the certificate says at a live label

-- the rules about the successors of an instruction
pub record LeadsWell (q : Question) (label : ℕ) (i : Instr) (row : Row) : Type 0 where
  pub within : list_all (λ to. nat_lt to.to (length q.program)) (leads q.env label row i) ≡ true
  pub entailed : list_all (λ to. row_passes q.rows to.to (entails to.row)) (leads q.env label row i) ≡ true

-- a live label of an accepted certificate passes each rule
pub live_rules : (q : Question) (label : ℕ) (i : Instr) (u : Row) → IsAccepted q → slice_get q.program label ≡ Some i → slice_get q.rows label ≡ Some u →
    u.live ≡ true → EachRule q label i u
live_rules q label i u accepted at_i at_u live =
    let all = each_rule q label accepted in
    let here : list_all (holds_if_live q label (Some i) (Some u)) later_rules ≡ true = rw (at_i, at_u) at all in
    let P : Bool → Type 0 = λ b. list_all (λ rule. not b || holds_at q label i u rule) later_rules ≡ true in
    each_from q label i u (subst P live here)

-- what the certificate's rows entail, stronger ones entail
pub entailed_keeps : (rows : List Row) (xs ys : List Lead) → AllZip StrongerLead xs ys → list_all (λ to. row_passes rows to.to (entails to.row)) ys ≡ true →
    list_all (λ to. row_passes rows to.to (entails to.row)) xs ≡ true
entailed_keeps rows [] [] z e = refl
entailed_keeps rows (x ∷ xs) (y ∷ ys) ((same, more), others) e =
    let (here, rest) = and_parts (row_passes rows y.to (entails y.row)) (list_all (λ to. row_passes rows to.to (entails to.row)) ys) e in
    let (u, at, s) = passes_at rows y.to y.row here in
    let at' : slice_get rows x.to ≡ Some u = rw same at in
    both_are (passes rows x.to x.row u at' (further x.row y.row u more s)) (entailed_keeps rows xs ys others rest)
entailed_keeps rows x y z e = absurd z

-- the row that was found is stronger than the certificate's, and its successors are entailed
pub leads_well : (q : Question) (label : ℕ) (i : Instr) (row u : Row) → Stronger row u → AreWellFormed row → AreWellFormed u →
    EachRule q label i u → LeadsWell q label i row
leads_well q label i row u s fits fits' rules =
    let z = leads_keep q.env label row u i s fits fits' rules.targets in
    record {
      within = labels_keep (λ to. nat_lt to (length q.program)) (leads q.env label row i) (leads q.env label u i) z rules.within;
      entailed = entailed_keeps q.rows (leads q.env label row i) (leads q.env label u i) z rules.entailed;
    }

-- ---- one label

begins_grow : (rows rows' : List Row) (entry : Option Row) → Grows rows rows' → option_map_or (λ row. row_passes rows 0 (entails row)) entry false ≡ true →
    option_map_or (λ row. row_passes rows' 0 (entails row)) entry false ≡ true
begins_grow rows rows' None grows e = e
begins_grow rows rows' (Some row) grows e = grows 0 row e

-- passing a label on keeps what was found of the labels below, and finds the label
after_step : (q : Question) (label : ℕ) (rows rows' : List Row) → Sound q rows label → Step q label rows rows' → list_all is_well_formed_row rows' ≡ true
    → ((i : Instr) (row : Row) → slice_get q.program label ≡ Some i → slice_get rows label ≡ Some row → row.live ≡ true →
    list_all (λ to. row_passes rows' to.to (entails to.row)) (leads q.env label row i) ≡ true)
    → Sound q rows' (label + 1)
after_step q label rows rows' so step fits here = record {
  long = step.long ∙ so.long;
  well_formed = fits;
  fit = step.fit;
  begins = begins_grow rows rows' (entry_row q.env q.entry) step.grows so.begins;
  done = λ k lt i row at_i at_row live.
      let before : slice_get rows k ≡ Some row = sym (step.same k (omega arith)) ∙ at_row in
      elim (cases_lt k label) [
        | inl less ↦ leads_grow rows rows' (leads q.env k row i) step.grows (so.done k less i row at_i before live)
        | inr same ↦
            let is : k ≡ label = omega arith in
            let P : ℕ → Type 0 = λ n. list_all (λ to. row_passes rows' to.to (entails to.row)) (leads q.env n row i) ≡ true in
            subst P (sym is) (here i row (rw is at at_i) (rw is at before) live)
      ];
}

one_label : (q : Question) (label : ℕ) (i : Instr) (rows : List Row) → IsForward q.program → IsAccepted q → list_all is_well_formed_row q.rows ≡ true →
    slice_get q.program label ≡ Some i → Sound q rows label → Sound q (passed_from q.env label i rows) (label + 1)
one_label q label i rows forward accepted cert_fits at_i so =
    let within : label < length rows = omega (arith, so.long, slice_get_within q.program label i at_i) in
    let (row, at_row) = get_within rows label within in
    go row at_row row.live refl
  where
    go : (row : Row) → slice_get rows label ≡ Some row → (b : Bool) → row.live ≡ b → Sound q (passed_from q.env label i rows) (label + 1)
    go row at_row false dead =
        let is : passed_from q.env label i rows ≡ rows = rw (at_row, dead) refl in
        let P : List Row → Type 0 = λ r. Sound q r (label + 1) in
        subst P (sym is) (after_step q label rows rows so (no_step q label rows so.fit) so.well_formed
        (λ j other at_j at_other live. let same : other ≡ row = cc (at_row, at_other) in absurd (cc (ap (λ (r : Row). r.live) same, live, dead))))
    go row at_row true live =
        let is : passed_from q.env label i rows ≡ passed_on label rows (leads q.env label row i) = rw (at_row, live) refl in
        let (u, at_u, s) = passes_at q.rows label row (so.fit.below label row at_row live) in
        let fits : AreWellFormed row = fits_from row (all_at is_well_formed_row rows label row so.well_formed at_row) in
        let well = leads_well q label i row u s fits (fits_from u (all_at is_well_formed_row q.rows label u cert_fits at_u))
        (live_rules q label i u accepted at_i at_u s.other_live) in
        let rows' = passed_on label rows (leads q.env label row i) in
        let within : list_all (λ to. nat_lt to.to (length rows)) (leads q.env label row i) ≡ true = rw so.long well.within in
        let (step, entailed) = pass_step q label rows (leads q.env label row i) cert_fits so.fit
        (forward_leads q.env label row i (λ to names. forward label to i at_i names)) within well.entailed in
        let P : List Row → Type 0 = λ r. Sound q r (label + 1) in
        subst P (sym is) (after_step q label rows rows' so step (passed_well_formed label rows (leads q.env label row i) so.well_formed)
        (λ j other at_j at_other live'.
        let same : row ≡ other = cc (at_row, at_other) in
        let same' : i ≡ j = cc (at_i, at_j) in
        let T : Row → Instr → Type 0 = λ r x. list_all (λ to. row_passes rows' to.to (entails to.row)) (leads q.env label r x) ≡ true in
        subst (λ (x : Instr). T other x) same' (subst (λ (r : Row). T r i) same entailed)))

-- ---- all labels

pub spread_sound : (q : Question) (program : List Instr) (label : ℕ) (rows : List Row) → IsForward q.program → IsAccepted q →
    list_all is_well_formed_row q.rows ≡ true
    → ((k : ℕ) → slice_get program k ≡ slice_get q.program (label + k)) → Sound q rows label →
    Sound q (spread q.env program label rows) (label + length program)
unfolding spread
spread_sound q [] label rows forward accepted fits rest so = let e : label + 0 ≡ label = omega arith in subst (λ (n : ℕ). Sound q rows n) (sym e) so
spread_sound q (i ∷ program) label rows forward accepted fits rest so =
    let here : label + 0 ≡ label = omega arith in
    let at_i : slice_get q.program label ≡ Some i = rw here at (sym (rest 0)) in
    let one = one_label q label i rows forward accepted fits at_i so in
    let more : (k : ℕ) → slice_get program k ≡ slice_get q.program (label + 1 + k) = λ k. let e : label + suc k ≡ label + 1 + k = omega arith in
    rw (← e) (rest (suc k)) in
    let all = spread_sound q program (label + 1) (passed_from q.env label i rows) forward accepted fits more one in
    let e : label + 1 + length program ≡ label + suc (length program) = omega arith in
    subst (λ (n : ℕ). Sound q (spread q.env program (label + 1) (passed_from q.env label i rows)) n) e all

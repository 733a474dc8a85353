-- Widening passes in loops: label by label, and pass by pass.
use Rattle.std.proofs.Common.{◌≡◌, ℕ, zero, suc, ◌+◌, ◌<◌, ◌≤◌, Bool, true, false, ◌||◌, cond, List, [], ◌∷◌, length, drop, Some, None}
use Rattle.std.proofs.Common.{refl, sym, ap, ◌∙◌, add-one, arith}
use Rattle.std.specs.Prelude.{slice_get, slice_set, nat_lt, nat_le, not}
use Rattle.std.proofs.lemmas.List.{drop_all}
use Rattle.dp_model.specs.declared.row.Row.{Row}
use Rattle.dp_model.specs.declared.row.Lead.{Lead}
use Rattle.dp_model.specs.Rows.{leads}
use Rattle.dp_model.specs.declared.instr.Instr.{Instr}
use Rattle.dp_model.specs.Environments.{Environment}
use Rattle.dp_infer.specs.Widening.{Passed, unchanged, same_row, known_after, and_then, reached_again, passed_again, passed_on_again}
use Rattle.dp_infer.specs.Widening.{spread_again, weakened_once, widened_from, slow_passes}
use Rattle.dp_infer.proofs.Passing.{next}

-- ---- one label

-- the rows of a pass as they are
abbrev pub as_they_are : List Row → Bool → Passed
as_they_are rows changed = record { rows = rows; changed = changed }

-- a row that is not there stays out
pub again_past : (program : List Instr) (label : ℕ) (slow : Bool) (lead : Lead) (rows : List Row) → slice_get rows lead.to ≡ None →
    reached_again program label slow lead rows ≡ unchanged rows
again_past program label slow lead rows e = rw e refl

pub again_there : (program : List Instr) (label : ℕ) (slow : Bool) (lead : Lead) (rows : List Row) (there row : Row) (b : Bool)
    → slice_get rows lead.to ≡ Some there → row ≡ known_after program (nat_le lead.to label) slow there lead.row
    → b ≡ not (same_row row there) → reached_again program label slow lead rows ≡ as_they_are (slice_set rows lead.to row) b
again_there program label slow lead rows there row b e is f = rw (e, f, is) refl

-- a dead row is not passed on
pub again_dead : (program : List Instr) (env : Environment) (slow : Bool) (label : ℕ) (i : Instr) (rows : List Row) (row : Row)
    → slice_get rows label ≡ Some row → row.live ≡ false → passed_again program env slow label i rows ≡ unchanged rows
again_dead program env slow label i rows row e dead = rw (e, dead) refl

-- a live row is passed on to all successors
pub again_live : (program : List Instr) (env : Environment) (slow : Bool) (label : ℕ) (i : Instr) (rows : List Row) (row : Row) (ways : List Lead)
    → slice_get rows label ≡ Some row → row.live ≡ true → ways ≡ leads env label row i
    → passed_again program env slow label i rows ≡ passed_on_again program label slow ways rows
again_live program env slow label i rows row ways e live is =
    rw e (ap (λ b. cond b (passed_on_again program label slow (leads env label row i) rows) (unchanged rows)) live
    ∙ ap (λ l. passed_on_again program label slow l rows) (sym is))

or_false : (b : Bool) → (b || false) ≡ b
or_false true = refl
or_false false = refl

-- the rows after one way, and after two
pub again_one : (program : List Instr) (label : ℕ) (slow : Bool) (lead : Lead) (rows : List Row) (p : Passed)
    → reached_again program label slow lead rows ≡ p → passed_on_again program label slow (lead ∷ []) rows ≡ p
again_one program label slow lead rows p e = rw e (ap (as_they_are p.rows) (or_false p.changed))

pub again_two : (program : List Instr) (label : ℕ) (slow : Bool) (lead other : Lead) (rows : List Row) (p q : Passed)
    → reached_again program label slow lead rows ≡ p → reached_again program label slow other p.rows ≡ q
    → passed_on_again program label slow (lead ∷ other ∷ []) rows ≡ as_they_are q.rows (p.changed || q.changed)
again_two program label slow lead other rows p q e f = rw (e, f) (ap (λ b. as_they_are q.rows (p.changed || b)) (or_false q.changed))

-- ---- one pass

pub spread_again_more : (program : List Instr) (env : Environment) (slow : Bool) (label : ℕ) (i : Instr) (p total : Passed) → slice_get program label ≡ Some i
    → spread_again program env slow (drop label program) label p ≡ total
    → spread_again program env slow (drop (label + 1) program) (label + 1) (and_then p (passed_again program env slow label i)) ≡ total
unfolding spread_again
spread_again_more program env slow label i p total e so_far =
    let one : spread_again program env slow (drop label program) label p
    ≡ spread_again program env slow (drop (suc label) program) (label + 1) (and_then p (passed_again program env slow label i)) =
    rw (next program label i e) refl in
    let there : drop (label + 1) program ≡ drop (suc label) program = rw add-one refl in
    rw there (sym one ∙ so_far)

pub spread_again_done : (program : List Instr) (env : Environment) (slow : Bool) (label : ℕ) (p total : Passed) → length program ≤ label →
    spread_again program env slow (drop label program) label p ≡ total → p ≡ total
unfolding spread_again
spread_again_done program env slow label p total past so_far =
    let one : spread_again program env slow (drop label program) label p ≡ p = rw (drop_all label program past) refl in
    sym one ∙ so_far

-- ---- pass by pass

-- n passes are left
pub widened_more : (program : List Instr) (env : Environment) (n pass : ℕ) (rows total : List Row) → 0 < n
    → (weakened_once program env (nat_lt pass slow_passes) rows).changed ≡ true → widened_from program env n pass rows ≡ total
    → (k : ℕ) → k + 1 ≡ n → widened_from program env k (pass + 1) (weakened_once program env (nat_lt pass slow_passes) rows).rows ≡ total
unfolding widened_from
widened_more program env zero pass rows total some e so_far k is = absurd (omega (arith, some))
widened_more program env (suc n) pass rows total some e so_far k is =
    let same : k ≡ n = omega (arith, is) in
    let one : widened_from program env (suc n) pass rows
    ≡ widened_from program env n (pass + 1) (weakened_once program env (nat_lt pass slow_passes) rows).rows = rw e refl in
    rw same (sym one ∙ so_far)

pub widened_early : (program : List Instr) (env : Environment) (n pass : ℕ) (rows total : List Row) → 0 < n
    → (weakened_once program env (nat_lt pass slow_passes) rows).changed ≡ false → widened_from program env n pass rows ≡ total
    → (weakened_once program env (nat_lt pass slow_passes) rows).rows ≡ total
unfolding widened_from
widened_early program env zero pass rows total some e so_far = absurd (omega (arith, some))
widened_early program env (suc n) pass rows total some e so_far =
    let one : widened_from program env (suc n) pass rows ≡ (weakened_once program env (nat_lt pass slow_passes) rows).rows = rw e refl in
    sym one ∙ so_far

pub widened_done : (program : List Instr) (env : Environment) (n pass : ℕ) (rows total : List Row) → n ≤ 0
    → widened_from program env n pass rows ≡ total → rows ≡ total
unfolding widened_from
widened_done program env zero pass rows total past so_far = so_far
widened_done program env (suc n) pass rows total past so_far = absurd (omega (arith, past))

-- One label after the other, in a loop.
use Rattle.std.proofs.Common.{◌≡◌, ℕ, zero, suc, ◌+◌, ◌≤◌, Bool, true, false, cond, List, [], ◌∷◌, length, drop, Option, Some, None, refl, sym, ◌∙◌, add-one}
use Rattle.std.specs.Prelude.{slice_get, slice_set, nat_lt, IsTrue}
use Rattle.std.specs.Option.{option_map_or}
use Rattle.std.specs.List.{list_all}
use Rattle.std.proofs.lemmas.List.{drop_all, length-set}
use Rattle.dp_model.specs.declared.row.Row.{Row}
use Rattle.dp_model.specs.declared.row.Lead.{Lead}
use Rattle.dp_model.specs.declared.instr.Instr.{Instr}
use Rattle.dp_model.specs.Environments.{Environment}
use Rattle.dp_model.specs.Rows.{is_well_formed_row, leads}
use Rattle.dp_infer.specs.Joins.{met, reached, passed_on, passed_from, spread}
use Rattle.dp_infer.proofs.Reach.{passed_well_formed}

-- a dead row is not passed on
pub not_passed : (env : Environment) (label : ℕ) (i : Instr) (rows : List Row) (row : Row) → slice_get rows label ≡ Some row → row.live ≡ false →
    rows ≡ passed_from env label i rows
not_passed env label i rows row e dead = rw (e, dead) refl

pub stays_well_formed : (label : ℕ) (rows rows' : List Row) (leads : List Lead) → rows' ≡ passed_on label rows leads →
    IsTrue (list_all is_well_formed_row rows) → IsTrue (list_all is_well_formed_row rows')
stays_well_formed label rows rows' leads e h = rw e (passed_well_formed label rows leads h)

pub next : (program : List Instr) (label : ℕ) (i : Instr) → slice_get program label ≡ Some i → drop label program ≡ i ∷ drop (suc label) program
next [] label i e = absurd cc
next (j ∷ program) zero i e = cc
next (j ∷ program) (suc label) i e = next program label i e

pub spread_more : (env : Environment) (program : List Instr) (label : ℕ) (i : Instr) (rows total : List Row) → slice_get program label ≡ Some i
    → spread env (drop label program) label rows ≡ total → spread env (drop (label + 1) program) (label + 1) (passed_from env label i rows) ≡ total
unfolding spread
spread_more env program label i rows total e so_far =
    let one : spread env (drop label program) label rows ≡ spread env (drop (suc label) program) (label + 1) (passed_from env label i rows) =
    rw (next program label i e) refl in
    let there : drop (label + 1) program ≡ drop (suc label) program = rw add-one refl in
    rw there (sym one ∙ so_far)

pub spread_done : (env : Environment) (program : List Instr) (label : ℕ) (rows total : List Row) → length program ≤ label →
    spread env (drop label program) label rows ≡ total → rows ≡ total
unfolding spread
spread_done env program label rows total past so_far =
    let one : spread env (drop label program) label rows ≡ rows = rw (drop_all label program past) refl in
    sym one ∙ so_far

-- ---- the number of rows stays

reached_long : (label : ℕ) (rows : List Row) (lead : Lead) → length (reached label rows lead) ≡ length rows
reached_long label rows lead = go (nat_lt label lead.to) (slice_get rows lead.to)
  where
    go : (b : Bool) (o : Option Row) → length (cond b (option_map_or (λ there. slice_set rows lead.to (met there lead.row)) o rows) rows) ≡ length rows
    go true None = refl
    go true (Some there) = length-set rows lead.to (met there lead.row)
    go false o = refl

passed_long : (label : ℕ) (rows : List Row) (leads : List Lead) → length (passed_on label rows leads) ≡ length rows
passed_long label rows [] = refl
passed_long label rows (lead ∷ leads) = passed_long label (reached label rows lead) leads ∙ reached_long label rows lead

from_long : (env : Environment) (label : ℕ) (i : Instr) (rows : List Row) → length (passed_from env label i rows) ≡ length rows
from_long env label i rows = go (slice_get rows label)
  where
    at : (b : Bool) (row : Row) → length (cond b (passed_on label rows (leads env label row i)) rows) ≡ length rows
    at true row = passed_long label rows (leads env label row i)
    at false row = refl

    go : (o : Option Row) → length (option_map_or (λ row. cond row.live (passed_on label rows (leads env label row i)) rows) o rows) ≡ length rows
    go None = refl
    go (Some row) = at row.live row

pub spread_long : (env : Environment) (program : List Instr) (label : ℕ) (rows : List Row) → length (spread env program label rows) ≡ length rows
unfolding spread
spread_long env [] label rows = refl
spread_long env (i ∷ program) label rows = spread_long env program (label + 1) (passed_from env label i rows) ∙ from_long env label i rows

-- Laws of rows for inference.
use Rattle.std.specs.Prelude.{◌≡◌, List, IsTrue}
use Rattle.std.specs.List.{AllZip}
use Rattle.dp_model.specs.declared.row.Row.{Row}
use Rattle.dp_model.specs.declared.row.Lead.{Lead}
use Rattle.dp_model.specs.Rows.{entails}
use Rattle.dp_infer.specs.Joins.{joined}

-- both lead to the same label, the first with a row that entails the other's
abbrev pub LeadEntails : Lead → Lead → Type 0
LeadEntails x y = (x.to ≡ y.to) × IsTrue (entails x.row y.row)

-- leads to the same labels, each with a row that entails the other's
abbrev pub LeadsEntail : List Lead → List Lead → Type 0
LeadsEntail xs ys = AllZip LeadEntails xs ys

-- what both rows say follows from either, and entails all that follows from both
pub record HaveLeastRow (a b upper : Row) : Type 0 where
  pub left : IsTrue (entails a (joined a b))
  pub right : IsTrue (entails b (joined a b))
  pub least : IsTrue (entails (joined a b) upper)

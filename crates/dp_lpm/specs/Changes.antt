-- Changes of one table among several.
use Rattle.std.specs.Prelude.{◌≡◌, ℕ, List, Some, None, slice_get, slice_set}
use Rattle.dp_lpm.specs.Routes.{RouteTable, Puts, Drops, prefix_of}
use Rattle.dp_lpm.specs.Faults.{added, add_fault, delete_fault}

-- the table of this number is so
pub record HasTable (number : ℕ) (tables : List RouteTable) (Is : RouteTable → Type 0) : Type 0 where
  pub table : RouteTable
  pub there : slice_get tables number ≡ Some table
  pub is : Is table

-- the table of this number changes so, and no other does
pub record ChangesTable (number : ℕ) (old new : List RouteTable) (Changes : RouteTable → RouteTable → Type 0) : Type 0 where
  pub was : RouteTable
  pub there : slice_get old number ≡ Some was
  pub now : RouteTable
  pub changes : Changes was now
  pub new_is : new ≡ slice_set old number now

-- a route is added to the table of this number, which accepts it
abbrev pub AddsRoute : ℕ → ℕ → ℕ → ℕ → List RouteTable → List RouteTable → Type 0
AddsRoute number ip depth hop old new =
    ChangesTable number old new (λ was now. Puts was now (added ip depth hop) × (add_fault was ip depth hop ≡ None))

-- a route is deleted from the table of this number, which has it
abbrev pub DeletesRoute : ℕ → ℕ → ℕ → List RouteTable → List RouteTable → Type 0
DeletesRoute number ip depth old new =
    ChangesTable number old new (λ was now. Drops was now (prefix_of ip depth) depth × (delete_fault was ip depth ≡ None))

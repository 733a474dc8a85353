-- What node runs and turns can cost: ways through a program, from label to label.
use Rattle.std.specs.Prelude.{◌≡◌, ◌⊎◌, ℕ, zero, suc, ◌+◌, ◌*◌, ◌<◌, ◌≤◌, max, nat_le, Bool, true, false, if◌then◌else◌, List, [], ◌∷◌, Option, Some, None}
use Rattle.std.specs.Prelude.{slice_get, slice_index}
use Rattle.std.specs.Option.{option_map_or}
use Rattle.dp_model.specs.declared.instr.Instr.{Instr}
use Rattle.dp_model.specs.declared.instr.Instr.TheVariants.{Jmp, Exit}
use Rattle.dp_model.specs.Jumps.{IsForward}
use Rattle.dp_model.specs.Needs.{label_of}
use Rattle.dp_model.specs.Limits.{max_ring_runs}
use Rattle.dp_model.specs.Runs.{max_steps}
use Rattle.dp_cost.specs.declared.costs.Cost.{Cost}

-- ---- where control can go

-- whether control can go from an instruction to the next
abbrev pub goes_on : Instr → Bool
goes_on (Jmp to) = false
goes_on Exit = false
goes_on _ = true

-- whether control can go from an instruction at a label to this one
abbrev pub LeadsTo : ℕ → Instr → ℕ → Type 0
LeadsTo label i to = ((goes_on i ≡ true) × (to ≡ label + 1)) ⊎ (label_of i ≡ Some to)

-- whether an instruction at a label names this label or an earlier one
abbrev pub jumps_back : ℕ → Instr → Bool
jumps_back label i = option_map_or (λ to. nat_le to label) (label_of i) false

-- the first label at which the program can jump back
pub record IsFirstBack (program : List Instr) (label : ℕ) : Type 0 where
  pub instr : Instr
  pub here : slice_get program label ≡ Some instr
  pub back : jumps_back label instr ≡ true
  pub before : (k : ℕ) (i : Instr) → k < label → slice_get program k ≡ Some i → jumps_back k i ≡ false

-- ---- ways

-- there is a row of n labels of the program, from this one on, along which control can go one after another
abbrev pub HasWay : List Instr → ℕ → ℕ → Type 0
HasWay program zero label = Unit {0}
HasWay program (suc n) label =
    (i : Instr) × (slice_get program label ≡ Some i) × ((n ≡ 0) ⊎ ((to : ℕ) × LeadsTo label i to × HasWay program n to))

-- the longest one
pub record IsLongest (program : List Instr) (label n : ℕ) : Type 0 where
  pub there : HasWay program n label
  pub most : (m : ℕ) → HasWay program m label → m ≤ n

-- ---- costs

-- the longest way of a program that never jumps back; else 257 times its length, and the first label that jumps back
abbrev pub CostsAtMost : List Instr → ℕ → Option ℕ → Type 0
CostsAtMost program steps None = IsForward program × IsLongest program 0 steps
CostsAtMost program steps (Some label) = IsFirstBack program label × (steps ≡ max_steps program)

abbrev pub IsCost : List Instr → Cost → Type 0
IsCost program cost = CostsAtMost program cost.steps cost.back

-- each program has its cost
abbrev pub AreCosts : List (List Instr) → List Cost → Type 0
AreCosts programs costs =
    (k : ℕ) (program : List Instr) → slice_get programs k ≡ Some program → (cost : Cost) × (slice_get costs k ≡ Some cost) × IsCost program cost

-- the greatest of costs, 0 of none
abbrev pub greatest : List Cost → ℕ
greatest [] = 0
greatest (cost ∷ costs) = max cost.steps (greatest costs)

-- the greatest number of steps of a turn: the node run of its port, and up to 32 on packets in rings
abbrev pub turn_cost : Cost → List Cost → ℕ
turn_cost port rings = port.steps + max_ring_runs * greatest rings

-- ---- internal: the longest ways from all labels, found from the last to the first

-- that from a label, 0 past the end
abbrev pub way_at : List ℕ → ℕ → ℕ
way_at ways label = slice_index ways label

-- that from a label, with those from later ones
abbrev pub way_from : List ℕ → ℕ → Instr → ℕ
way_from ways label i = max (if goes_on i then way_at ways (label + 1) else 0) (option_map_or (way_at ways) (label_of i) 0) + 1

-- No label so far can jump back.
use Rattle.std.proofs.Common.{◌≡◌, ℕ, ◌<◌, false, Some}
use Rattle.std.specs.Prelude.{slice_get}
use Rattle.dp_model.specs.declared.instr.Instr.{Instr}
use Rattle.dp_cost.specs.Costs.{jumps_back}
use Rattle.dp_cost.proofs.flow.first_back.Given as goal

abbrev pub invariant-loop-label : goal.invariant-loop-label
invariant-loop-label l = (k : ℕ) (i : Instr) → k < l.label → slice_get l.instrs k ≡ Some i → jumps_back k i ≡ false

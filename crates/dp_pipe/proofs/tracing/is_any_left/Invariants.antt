-- `is_any_left`: no input so far is traced and open.
use Rattle.std.proofs.Common.{◌≡◌, ◌<◌, ℕ, Some}
use Rattle.std.specs.Prelude.{slice_get}
use Rattle.dp_engine.specs.declared.report.InputState.TheVariants.{Open}
use Rattle.dp_pipe.specs.declared.forwarding.InputProgress.{InputProgress}
use Rattle.dp_pipe.specs.Tracing.{IsTraced}
use Rattle.dp_pipe.proofs.tracing.is_any_left.Given as goal

abbrev pub invariant-loop-port : goal.invariant-loop-port
invariant-loop-port l = (q : ℕ) (p : InputProgress) → q < l.port → slice_get l.inputs q ≡ Some p → IsTraced l.which.port q → p.state ≡ Open → ⊥

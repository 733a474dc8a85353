-- `unit_for`: nanoseconds where any input has them.
use Rattle.std.proofs.Common.{refl}
use Rattle.dp_pipe.proofs.Heading.{any_nano}
use Rattle.dp_pipe.proofs.running.unit_for.Goals as goal

pub returns-then-has_nano : goal.returns-then-has_nano
returns-then-has_nano c = rw (any_nano c.args.inputs.now, ← c.has_nano.ensures, c.if-has_nano.true) refl

pub returns-else-has_nano : goal.returns-else-has_nano
returns-else-has_nano c = rw (any_nano c.args.inputs.now, ← c.has_nano.ensures, c.if-has_nano.false) refl

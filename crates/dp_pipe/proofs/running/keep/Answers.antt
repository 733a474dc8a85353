-- `keep`: one more input.
use Rattle.dp_pipe.proofs.running.keep.Goals as goal

pub returns-clause-capacity : goal.returns-clause-capacity
returns-clause-capacity c = c.push.ensures.capacity

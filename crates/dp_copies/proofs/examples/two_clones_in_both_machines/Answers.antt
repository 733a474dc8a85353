-- The run by hand.
use Rattle.dp_copies.proofs.TwoClones.{starts, shared_run, copy_captures}
use Rattle.dp_copies.proofs.examples.two_clones_in_both_machines.Goals as goal

pub returns-clause-starts : goal.returns-clause-starts
returns-clause-starts c = starts

pub returns-clause-shared : goal.returns-clause-shared
returns-clause-shared c = shared_run

pub returns-clause-copied : goal.returns-clause-copied
returns-clause-copied c = copy_captures

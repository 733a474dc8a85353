-- The counts so far.
use Rattle.std.proofs.Common.{◌≡◌, take}
use Rattle.arrayvec.specs.ArrayVec.{array_vec_len}
use Rattle.dp_runs.specs.Closing.{lowered_from}
use Rattle.dp_runs.proofs.closing.lowered_ports.Given as goal

abbrev pub invariant-loop-k : goal.invariant-loop-k
invariant-loop-k l = record {
  count : array_vec_len l.all ≡ l.k;
  ports : l.all.items ≡ lowered_from 0 (take l.k l.ports) l.lost;
}

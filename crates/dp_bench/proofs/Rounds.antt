-- Where there is no memory, no round succeeds.
use Rattle.std.proofs.Common.{ℕ, refl, inr, arith}
use Rattle.dp_bench.specs.declared.heaps.Way.{Way}
use Rattle.dp_bench.specs.declared.heaps.Bench.{Bench}
use Rattle.dp_bench.specs.Rounds.{Served, ServedBy}

pub none_served_by : (way : Way) (rounds : ℕ) → ServedBy way rounds 0
none_served_by Way.One rounds = inr refl
none_served_by Way.Bulk rounds = omega arith

pub none_served : (bench : Bench) (rounds : ℕ) → Served bench rounds 0
none_served (Bench.Blocks others) rounds = omega arith
none_served (Bench.Ring way) rounds = inr refl
none_served (Bench.Pool cache way) rounds = none_served_by way rounds
none_served (Bench.Mbufs deed) rounds = omega arith

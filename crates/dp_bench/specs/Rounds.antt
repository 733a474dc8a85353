-- How many rounds succeed.
use Rattle.std.specs.Prelude.{◌≡◌, ℕ, ◌≤◌, ◌⊎◌}
use Rattle.dp_bench.specs.declared.heaps.Way.{Way}
use Rattle.dp_bench.specs.declared.heaps.Bench.{Bench}

-- one by one all of them, or none where there is no memory; in bulk at most all
abbrev pub ServedBy : Way → ℕ → ℕ → Type 0
ServedBy Way.One rounds result = (result ≡ rounds) ⊎ (result ≡ 0)
ServedBy Way.Bulk rounds result = result ≤ rounds

-- so it is for pools; for rings all or none, and for blocks and mbufs at most all
abbrev pub Served : Bench → ℕ → ℕ → Type 0
Served (Bench.Blocks others) rounds result = result ≤ rounds
Served (Bench.Ring way) rounds result = (result ≡ rounds) ⊎ (result ≡ 0)
Served (Bench.Pool cache way) rounds result = ServedBy way rounds result
Served (Bench.Mbufs deed) rounds result = result ≤ rounds

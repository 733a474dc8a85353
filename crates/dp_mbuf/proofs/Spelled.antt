-- The bytes of a number, the highest first.
use Rattle.std.proofs.Common.{ℕ, zero, suc, arith}
use Rattle.dp_model.specs.Arithmetic.{big_endian}
use Rattle.dp_mbuf.proofs.PoolLemmas.{Small}

pub small_spelled : (w n : ℕ) → Small (big_endian w n)
small_spelled zero n k = omega arith
small_spelled (suc w) n zero = omega arith
small_spelled (suc w) n (suc k) = small_spelled w n k

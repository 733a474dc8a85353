-- Internal, no public contract names it: a number of four bytes is two of two bytes.
use Rattle.std.specs.Prelude.{◌≡◌, ℕ, ◌+◌, ◌*◌, ◌/◌, ◌%◌}
use Rattle.std.proofs.Common.{arith}
use Rattle.dp_mbuf.specs.declared.limits.TheConstants.{POOL_HANDLES}

-- the two parts give the number
pub two_words : (n : ℕ) → n / POOL_HANDLES * POOL_HANDLES + n % POOL_HANDLES ≡ n
two_words n = omega arith

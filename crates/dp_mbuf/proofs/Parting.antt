-- Bytes in parts of the same length.
use Rattle.std.proofs.Common.{◌≡◌, ℕ, ◌+◌, ◌-◌, ◌*◌, ◌/◌, ◌%◌, ◌<◌, ◌≤◌, sym, ap, arith}
use Rattle.std.specs.Prelude.{min, max}
use Rattle.std.proofs.lemmas.Grind.{div_ceil_times}
use Rattle.std.proofs.Math.Nat.{div-eq_of_lt-le}

-- the number of parts, of which the last may be shorter
pub parts_are : (len full : ℕ) → 1 ≤ full → max 1 (len / full + min 1 (len % full)) ≡ max 1 ((len + (full - 1)) / full)
parts_are len full some =
    let parts : ℕ = len / full + min 1 (len % full) in
    let ends = div_ceil_times len full some in
    let low : parts * full ≤ len + (full - 1) = omega (arith, some, ends.1) in
    let high : len + (full - 1) < (parts + 1) * full = omega (arith, some, ends.0) in
    ap (max 1) (sym (div-eq_of_lt-le full low high))

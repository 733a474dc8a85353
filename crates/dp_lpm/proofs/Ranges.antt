-- The addresses of a prefix.
use Rattle.std.proofs.Common.{◌≡◌, ℕ, ◌+◌, ◌-◌, ◌*◌, ◌/◌, ◌%◌, ◌^◌, ◌<◌, ◌≤◌, sym, ◌∙◌, ap, arith, ⊎_elim, mul_assoc, add-zero}
use Rattle.std.proofs.lemmas.Bool.{cases_lt}
use Rattle.std.proofs.lemmas.Nat.{pow_pos, pow-add, shl-shr, shr-shr, shr_split, mod-pow-add, mod_below, div-mul-add, row_fits, shr_below, pow_below}
use Rattle.std.proofs.lemmas.Nat.{mod-mul-add}
use Rattle.dp_lpm.specs.Routes.{prefix_of}
use Rattle.dp_lpm.specs.Tables.{start_of, IsEven}

-- a prefix has as many bits as its depth
pub prefix_small : (ip depth : ℕ) → ip < 4294967296 → depth ≤ 32 → prefix_of ip depth < 2 ^ depth
prefix_small ip depth small most =
    let bits : depth + (32 - depth) ≡ 32 = omega arith in shr_below ip depth (32 - depth) (rw bits small)

pub in_range : (ip depth other : ℕ) → start_of ip depth ≤ other → other < start_of ip depth + 2 ^ (32 - depth) → prefix_of other depth ≡ prefix_of ip depth
in_range ip depth other le lt =
    let rest : other ≡ start_of ip depth + (other - start_of ip depth) = omega arith in
    ap (λ n. prefix_of n depth) rest ∙ div-mul-add (prefix_of ip depth) (2 ^ (32 - depth)) (other - start_of ip depth) (omega arith)

pub range_low : (ip depth other : ℕ) → prefix_of other depth ≡ prefix_of ip depth → start_of ip depth ≤ other
range_low ip depth other same = rw (← same) (omega (arith, shr_split other (32 - depth)))

pub range_high : (ip depth other : ℕ) → prefix_of other depth ≡ prefix_of ip depth → other < start_of ip depth + 2 ^ (32 - depth)
range_high ip depth other same = rw (← same) (omega (arith, shr_split other (32 - depth), mod_below other (2 ^ (32 - depth)) (pow_pos (32 - depth))))

-- 2 to the 8 and more
large : (n : ℕ) → 8 ≤ n → 2 ^ n ≡ 2 ^ (n - 8) * 256
large n le = let bits : n ≡ n - 8 + 8 = omega arith in ap (λ k. 2 ^ k) bits ∙ pow-add 2 (n - 8) 8

-- a range of fewer than 256 addresses is that of a deep prefix
few_bits : (n : ℕ) → 2 ^ n < 256 → n < 8
few_bits n few = ⊎_elim (λ (lt : n < 8). lt) (λ (le : 8 ≤ n). absurd (omega (arith, large n le, pow_pos (n - 8)))) (cases_lt n 8)

pub size_large : (depth : ℕ) → 2 ^ (32 - depth) < 256 → 24 < depth
size_large depth few = omega (arith, few_bits (32 - depth) few)

-- the range is part of one group's addresses, or is made of whole ones
pub range_even : (ip depth : ℕ) → ip < 4294967296 → depth ≤ 32 → IsEven (start_of ip depth) (2 ^ (32 - depth))
range_even ip depth small most = record {
  bound =
      let bits : depth + (32 - depth) ≡ 32 = omega arith in
      let fits = row_fits (prefix_of ip depth) (2 ^ (32 - depth)) (2 ^ depth) (2 ^ (32 - depth)) (prefix_small ip depth small most) (omega arith) in
      omega (arith, fits, rw bits at (pow-add 2 depth (32 - depth)));
  part = λ few. part (32 - depth) (prefix_of ip depth) (few_bits (32 - depth) few);
  whole = λ many. whole (32 - depth) (prefix_of ip depth) many;
}
  where
    part : (n q : ℕ) → n < 8 → (q * 2 ^ n) % 256 + 2 ^ n ≤ 256
    part n q few =
        let bits : 8 - n + n ≡ 8 = omega arith in
        let low : (q * 2 ^ n) % 2 ^ n ≡ 0 = rw add-zero at (mod-mul-add q (2 ^ n) 0 (pow_pos n)) in
        let split = rw (bits, shl-shr, low) at (mod-pow-add (q * 2 ^ n) (8 - n) n) in
        let fits = row_fits (q % 2 ^ (8 - n)) (2 ^ n) (2 ^ (8 - n)) (2 ^ n) (mod_below q (2 ^ (8 - n)) (pow_pos (8 - n))) (omega arith) in
        omega (arith, split, fits, rw bits at (pow-add 2 (8 - n) n))

    whole : (n q : ℕ) → 256 ≤ 2 ^ n → ((q * 2 ^ n) % 256 ≡ 0) × (2 ^ n % 256 ≡ 0)
    whole n q many =
        let most : 8 ≤ n = ⊎_elim (λ (lt : n < 8). absurd (omega (arith, pow_below n 8 lt))) (λ (le : 8 ≤ n). le) (cases_lt n 8) in
        rw (large n most) (rw (← mul_assoc q (2 ^ (n - 8)) 256) (omega arith))

-- the first 24 bits of a deep route's prefix
pub deep_first : (ip depth : ℕ) → 24 < depth → depth ≤ 32 → prefix_of ip depth / 2 ^ (depth - 24) ≡ ip / 256
deep_first ip depth deep most =
    let n : 32 - depth + (depth - 24) ≡ 8 = omega arith in rw (shr-shr ip (32 - depth) (depth - 24), n)

pub start_first : (ip depth : ℕ) → 24 < depth → depth ≤ 32 → start_of ip depth / 256 ≡ ip / 256
start_first ip depth deep most =
    let n : 32 - depth + (depth - 24) ≡ 8 = omega arith in
    let down = rw (n, shl-shr) at (sym (shr-shr (start_of ip depth) (32 - depth) (depth - 24))) in
    down ∙ deep_first ip depth deep most

-- a shorter prefix is determined by a longer one
pub shorter : (ip depth less : ℕ) → less ≤ depth → depth ≤ 32 → prefix_of ip less ≡ prefix_of ip depth / 2 ^ (depth - less)
shorter ip depth less le most =
    let n : 32 - depth + (depth - less) ≡ 32 - less = omega arith in rw (shr-shr ip (32 - depth) (depth - less), n)

-- where the range begins, as the code computes it
pub range_is : (ip depth : ℕ) → ip - ip % 2 ^ (32 - depth) ≡ start_of ip depth
range_is ip depth = omega (arith, shr_split ip (32 - depth))

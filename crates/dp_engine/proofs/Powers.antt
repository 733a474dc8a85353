-- The least power of two above a number.
use Rattle.std.proofs.Common.{◌≡◌, ℕ, zero, suc, ◌+◌, ◌*◌, ◌/◌, ◌^◌, ◌<◌, ◌≤◌, Bool, true, false, cond, ltb, refl, sym, ap, ◌∙◌, arith}
use Rattle.std.proofs.lemmas.Bool.{ltb-true, ltb-false}
use Rattle.std.proofs.Math.Pow.{pow_mono}
use Rattle.std.proofs.Math.Nat.{two-pow-succ}
use Rattle.std.specs.Int.{IsPowerOfTwo}
use Rattle.dp_engine.specs.Needs.{doubled_past, power_above}

twice : (j : ℕ) → 2 * 2 ^ j ≡ 2 ^ (j + 1)
twice j = let more : 2 ^ suc j ≡ 2 ^ j + 2 ^ j = two-pow-succ j in let next : j + 1 ≡ suc j = omega arith in
    let there = ap (λ (k : ℕ). 2 ^ k) next in omega arith

below_power : (n : ℕ) → n < 2 ^ n
below_power zero = omega arith
below_power (suc n) = let more : 2 ^ suc n ≡ 2 ^ n + 2 ^ n = two-pow-succ n in let low = below_power n in omega arith

-- doubling a lower power ends there
doubled_is : (n k : ℕ) → n < 2 ^ k → ((i : ℕ) → i < k → 2 ^ i ≤ n) → (m j : ℕ) → j ≤ k → k ≤ j + m → doubled_past n (2 ^ j) m ≡ 2 ^ k
doubled_is n k above others zero j low high = ap (λ (i : ℕ). 2 ^ i) (omega arith)
doubled_is n k above others (suc m) j low high = go (ltb n (2 ^ j)) refl (λ less. doubled_is n k above others m (j + 1) (omega arith) (omega arith))
  where
    go : (b : Bool) → ltb n (2 ^ j) ≡ b → (j < k → doubled_past n (2 ^ (j + 1)) m ≡ 2 ^ k) → cond b (2 ^ j) (doubled_past n (2 * 2 ^ j) m) ≡ 2 ^ k
    go true is more = let over = ltb-true n (2 ^ j) is in let still : j < k → ⊥ = λ less. let under = others j less in omega arith in
        let same : j ≡ k = omega (arith, still) in ap (λ (i : ℕ). 2 ^ i) same
    go false is more =
        let under = ltb-false n (2 ^ j) is in
        let apart : j ≡ k → ⊥ = λ same. let there = ap (λ (i : ℕ). 2 ^ i) same in omega arith in
        ap (λ (p : ℕ). doubled_past n p m) (twice j) ∙ more (omega (arith, apart))

pub power_is : (n p : ℕ) → IsPowerOfTwo p → n < p → p / 2 ≤ n → p ≡ power_above n
unfolding power_above
power_is n p (k, is) above half =
    let under : (i : ℕ) → i < k → 2 ^ i ≤ n = λ i less. let most : 2 ^ (i + 1) ≤ 2 ^ k = pow_mono (let from : i + 1 ≤ k = omega arith in from) in
    let next = twice i in omega arith in
    let least : k ≤ n = let low = below_power n in let still : n < k → ⊥ = λ less. let there = under n less in omega arith in omega (arith, still) in
    is ∙ sym (doubled_is n k (omega arith) under n 0 (omega arith) (omega arith))

-- one that is at most 131,071 is at most 65,536
pub power_small : (p : ℕ) → IsPowerOfTwo p → p ≤ 131071 → p ≤ 65536
power_small p (k, is) few = go (ltb 16 k) refl
  where
    go : (b : Bool) → ltb 16 k ≡ b → p ≤ 65536
    go true high = let above = ltb-true 16 k high in let most : 131072 ≤ 2 ^ k = pow_mono (let from : 17 ≤ k = omega arith in from) in absurd (omega arith)
    go false low = let below = ltb-false 16 k low in let most : 2 ^ k ≤ 65536 = pow_mono (let from : k ≤ 16 = omega arith in from) in omega arith

-- it is at most twice the number
doubled_low : (n p m : ℕ) → p ≤ 2 * n → 0 < p → (doubled_past n p m ≤ 2 * n) × (0 < doubled_past n p m)
doubled_low n p zero low some = (low, some)
doubled_low n p (suc m) low some = go (ltb n p) refl (λ under. doubled_low n (2 * p) m under (omega arith))
  where
    go : (b : Bool) → ltb n p ≡ b → (2 * p ≤ 2 * n → (doubled_past n (2 * p) m ≤ 2 * n) × (0 < doubled_past n (2 * p) m)) →
        (cond b p (doubled_past n (2 * p) m) ≤ 2 * n) × (0 < cond b p (doubled_past n (2 * p) m))
    go true is more = (low, some)
    go false is more = let under = ltb-false n p is in more (omega arith)

pub power_low : (n : ℕ) → 1 ≤ n → (power_above n ≤ 2 * n) × (0 < power_above n)
unfolding power_above
power_low n some = doubled_low n 1 n (omega arith) (omega arith)

-- The number of decimal digits, digit by digit.
use Rattle.std.proofs.Common.{◌≡◌, ℕ, ◌^◌, ◌<◌, ◌≤◌, true, List, [], ◌∷◌, length, get_or, zero, suc, arith}
use Rattle.std.specs.Char.{is_ascii_digit}
use Rattle.std.specs.List.{list_all}
use Rattle.std.proofs.lemmas.Bool.{and_parts}
use Rattle.std.proofs.lemmas.Bool.Decides.{nat_tests}
use Rattle.std.proofs.Math.Nat.{pow-le-pow_right}

digit_range : (d : ℕ) → is_ascii_digit d ≡ true → (48 ≤ d) × (d ≤ 57)
digit_range d h = grind (arith, nat_tests)

pub digit_at : (ds : List ℕ) (i : ℕ) → i < length ds → list_all is_ascii_digit ds ≡ true → (48 ≤ get_or ds i 0) × (get_or ds i 0 ≤ 57)
digit_at [] i lt h = absurd (omega arith)
digit_at (d ∷ ds) zero lt h = digit_range d ((and_parts (is_ascii_digit d) (list_all is_ascii_digit ds) h).0)
digit_at (d ∷ ds) (suc i) lt h = digit_at ds i (omega arith) ((and_parts (is_ascii_digit d) (list_all is_ascii_digit ds) h).1)

-- seven digits make less than 10,000,000
pub stays_small : (value i : ℕ) → value < 10 ^ i → i ≤ 7 → value < 10000000
stays_small value i below few =
    let most : 10 ^ i ≤ 10 ^ 7 = pow-le-pow_right {n = 10} (omega arith) few in
    omega arith

-- numbers of few digits are below a power of ten
pub within : (n digits most : ℕ) → n < 10 ^ digits → digits ≤ most → n < 10 ^ most
within n digits most below few =
    let more : 10 ^ digits ≤ 10 ^ most = pow-le-pow_right {n = 10} (omega arith) few in
    omega arith

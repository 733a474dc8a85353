-- A printed number reads as that number.
use Rattle.std.proofs.Common.{◌≡◌, ℕ, ◌+◌, ◌-◌, ◌*◌, ◌^◌, ◌<◌, ◌≤◌, true, false, List, [], ◌∷◌, length, Some, None, refl, ap, ◌∙◌, eq-eqb, arith}
use Rattle.std.specs.Prelude.{◌==◌, nat_le, nat_eq}
use Rattle.std.specs.List.{list_all, starts_with}
use Rattle.std.specs.Char.{digit_value}
use Rattle.std.specs.Fmt.{decimal}
use Rattle.std.specs.Str.Parse.{AllDigits, digits_value, digits_value_after}
use Rattle.std.proofs.lemmas.Bool.Decides.{nat_tests}
use Rattle.std.proofs.lemmas.Bool.{lt-ltb, leb-true, le-leb, and_from}
use Rattle.std.proofs.lemmas.Fmt.{decimal_digit, decimal_is_IsNumeral, length-decimal-le}
use Rattle.std.proofs.Math.Bool.{and-false}
use Rattle.dp_lang.specs.Kinds.{digits_after, numeral, number_in, register_in}
use Rattle.dp_lang.proofs.Bytes.{is_digit, and_left, and_right}

value_digit : (c : ℕ) → digit_value c < 10 → is_digit c ≡ true
value_digit c h = grind (arith, nat_tests)

are_digits : (ds : List ℕ) → AllDigits 10 ds → list_all is_digit ds ≡ true
are_digits [] h = refl
are_digits (c ∷ cs) h = and_from (is_digit c) (list_all is_digit cs) (value_digit c h.0) (are_digits cs h.1)

pub decimal_digits : (n : ℕ) → n < 2 ^ 64 → list_all is_digit (decimal n) ≡ true
decimal_digits n h = let ((_, digits), _) = decimal_is_IsNumeral n h in are_digits (decimal n) digits

pub decimal_short : (n : ℕ) → n < 2 ^ 64 → length (decimal n) ≤ 20
decimal_short n h = length-decimal-le 20 n (omega arith) (omega arith) h

after_digits : (n : ℕ) (ds : List ℕ) → AllDigits 10 ds → digits_after 10 n ds ≡ Some (digits_value_after 10 n ds)
after_digits n [] h = refl
after_digits n (c ∷ cs) h = rw (lt-ltb (digit_value c) 10 h.0) (after_digits (n * 10 + digit_value c) cs h.1)

numeral_digits : (ds : List ℕ) → 0 < length ds → AllDigits 10 ds → numeral 10 ds ≡ Some (digits_value 10 ds)
numeral_digits [] l h = absurd (omega arith)
numeral_digits (c ∷ cs) l h = after_digits 0 (c ∷ cs) h

no_x : (d : ℕ) → is_digit d ≡ true → nat_eq 120 d ≡ false
no_x d h = grind (arith, nat_tests)

no_letter : (letter c : ℕ) → 58 ≤ letter → is_digit c ≡ true → (c == letter) ≡ false
no_letter letter c l h = grind (arith, nat_tests)

-- decimal digits do not begin like a hex number
no_hex : (ds : List ℕ) → list_all is_digit ds ≡ true → starts_with nat_eq ds (48 ∷ 120 ∷ []) ≡ false
no_hex [] h = refl
no_hex (c ∷ []) h = and-false (nat_eq 48 c)
no_hex (c ∷ d ∷ ds) h = rw (no_x d (and_left (is_digit d) (list_all is_digit ds) (and_right (is_digit c) (list_all is_digit (d ∷ ds)) h)))
    (and-false (nat_eq 48 c))

pub number_decimal : (n : ℕ) → n < 2 ^ 64 → number_in (decimal n) ≡ Some n
unfolding number_in
number_decimal n h =
    let ((some, digits), is) = decimal_is_IsNumeral n h in
    rw (no_hex (decimal n) (decimal_digits n h)) (numeral_digits (decimal n) some digits ∙ ap (λ (m : ℕ). Some m) is)

-- digits are no register
pub no_register : (letter : ℕ) (ds : List ℕ) → 58 ≤ letter → list_all is_digit ds ≡ true → register_in letter ds ≡ None
unfolding register_in
no_register letter [] l h = refl
no_register letter (c ∷ []) l h = refl
no_register letter (c ∷ d ∷ []) l h = rw (no_letter letter c l (and_left (is_digit c) (list_all is_digit (d ∷ [])) h)) refl
no_register letter (c ∷ d ∷ e ∷ ds) l h = refl

-- a printed register reads as that register
pub register_decimal : (letter r : ℕ) → nat_le r 7 ≡ true → register_in letter (letter ∷ decimal r) ≡ Some r
unfolding register_in
register_decimal letter r h =
    let small : r ≤ 7 = leb-true r 7 h in
    let low : nat_le 48 (48 + r) ≡ true = le-leb 48 (48 + r) (omega arith) in
    let high : nat_le (48 + r) 55 ≡ true = le-leb (48 + r) 55 (omega arith) in
    let same : (letter == letter) ≡ true = eq-eqb letter letter refl in
    let back : 48 + r - 48 ≡ r = omega arith in
    rw (decimal_digit r (omega arith), same, low, high, back) refl

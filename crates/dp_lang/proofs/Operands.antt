-- A printed operand reads as that operand.
use Rattle.std.proofs.Common.{◌≡◌, ℕ, ◌^◌, ◌<◌, ◌≤◌, Bool, true, List, length, Ok, refl, arith}
use Rattle.std.specs.Prelude.{nat_le}
use Rattle.std.specs.List.{list_all}
use Rattle.std.specs.Fmt.{decimal}
use Rattle.std.proofs.lemmas.Bool.{leb-true, le-leb, and_from}
use Rattle.dp_lang.specs.declared.form.OperandKind.{OperandKind}
use Rattle.dp_lang.specs.declared.form.OperandKind.TheVariants as kinds
use Rattle.dp_lang.specs.Arguments.{Argument, packet, register, constant, label}
use Rattle.dp_lang.specs.Kinds.{argument_of, number_where, is_within, is_width, is_name, is_of, number_in, is_letter_or_digit}
use Rattle.dp_lang.specs.Printing.{argument_text, label_name}
use Rattle.dp_lang.proofs.Bytes.{is_digit, is_plain, digit_plain, digit_letter, all_implies}
use Rattle.dp_lang.proofs.Digits.{decimal_digits, decimal_short, number_decimal, no_register, register_decimal}

-- an operand with the printed name of its label
abbrev pub named : Argument ℕ → Argument (List ℕ)
named (packet p) = packet p
named (register r) = register r
named (constant n) = constant n
named (label n) = label (label_name n)

-- a register of one digit, other numbers of 64 bits
abbrev pub is_small : Argument ℕ → Bool
is_small (packet p) = nat_le p 7
is_small (register r) = nat_le r 7
is_small (constant n) = nat_le n 18446744073709551615
is_small (label l) = nat_le l 18446744073709551615

pub fits_64 : (n : ℕ) → nat_le n 18446744073709551615 ≡ true → n < 2 ^ 64
fits_64 n h = let small : n ≤ 18446744073709551615 = leb-true n 18446744073709551615 h in omega arith

-- ---- the bytes of a printed operand

pub plain_digits : (n : ℕ) → n < 2 ^ 64 → list_all is_plain (decimal n) ≡ true
plain_digits n h = all_implies is_digit is_plain digit_plain (decimal n) (decimal_digits n h)

pub argument_plain : (a : Argument ℕ) → is_small a ≡ true → list_all is_plain (argument_text a) ≡ true
argument_plain (packet p) h = plain_digits p (let small : p ≤ 7 = leb-true p 7 h in omega arith)
argument_plain (register r) h = plain_digits r (let small : r ≤ 7 = leb-true r 7 h in omega arith)
argument_plain (constant n) h = plain_digits n (fits_64 n h)
argument_plain (label l) h = plain_digits l (fits_64 l h)

-- ---- reading

pub name_label : (l : ℕ) → l < 2 ^ 64 → is_name (label_name l) ≡ true
name_label l h =
    let letters : list_all is_letter_or_digit (decimal l) ≡ true = all_implies is_digit is_letter_or_digit digit_letter (decimal l) (decimal_digits l h) in
    let short : nat_le (length (label_name l)) 31 ≡ true = le-leb (length (label_name l)) 31 (omega (arith, decimal_short l h)) in
    and_from (list_all is_letter_or_digit (decimal l)) (nat_le (length (label_name l)) 31) letters short

number_read : (test : ℕ → Bool) (n : ℕ) → n < 2 ^ 64 → test n ≡ true → number_where test (number_in (decimal n)) ≡ Ok (constant n)
number_read test n small h = rw (number_decimal n small, h) refl

pub argument_read : (k : OperandKind) (a : Argument ℕ) → is_of k a ≡ true → is_small a ≡ true → argument_of k (argument_text a) ≡ Ok (named a)
unfolding argument_of
argument_read kinds.Packet (packet p) h s = rw (register_decimal 112 p s) refl
argument_read kinds.Register (register r) h s = rw (register_decimal 114 r s) refl
argument_read (kinds.Number least most) (constant n) h s = number_read (is_within least most) n (fits_64 n s) h
argument_read kinds.Width (constant n) h s = number_read is_width n (fits_64 n s) h
argument_read kinds.RegisterOrConstant (register r) h s = rw (register_decimal 114 r s) refl
argument_read kinds.RegisterOrConstant (constant n) h s =
    rw (no_register 114 (decimal n) (omega arith) (decimal_digits n (fits_64 n s))) (number_read (is_within 0 18446744073709551615) n (fits_64 n s) h)
argument_read kinds.Label (label l) h s = rw (name_label l (fits_64 l s)) refl
argument_read kinds.Packet (register r) h s = absurd cc
argument_read _ _ h s = absurd cc

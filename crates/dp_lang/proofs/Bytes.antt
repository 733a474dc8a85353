-- The bytes of a printed text.
use Rattle.std.proofs.Common.{◌≡◌, ℕ, Bool, true, false, not, List, [], ◌∷◌, ◌++◌, refl, arith}
use Rattle.std.specs.Prelude.{◌&&◌, ◌||◌, ◌==◌, nat_le}
use Rattle.std.specs.List.{list_all}
use Rattle.std.proofs.lemmas.Bool.Decides.{nat_tests}
use Rattle.std.proofs.lemmas.Bool.{and_from}
use Rattle.dp_lang.specs.Lines.{is_blank, is_text, is_newline, is_hash, is_colon, is_comma}
use Rattle.dp_lang.specs.Kinds.{is_letter_or_digit}

-- ---- tests

pub and_left : (a b : Bool) → (a && b) ≡ true → a ≡ true
and_left true b h = refl
and_left false b h = h

pub and_right : (a b : Bool) → (a && b) ≡ true → b ≡ true
and_right true b h = h
and_right false b h = absurd cc

pub all_implies : (p q : ℕ → Bool) → ((b : ℕ) → p b ≡ true → q b ≡ true) → (s : List ℕ) → list_all p s ≡ true → list_all q s ≡ true
all_implies p q imp [] h = refl
all_implies p q imp (b ∷ s) h = and_from (q b) (list_all q s) (imp b (and_left (p b) (list_all p s) h))
    (all_implies p q imp s (and_right (p b) (list_all p s) h))

pub all_append : (p : ℕ → Bool) (s t : List ℕ) → list_all p s ≡ true → list_all p t ≡ true → list_all p (s ++ t) ≡ true
all_append p [] t h k = k
all_append p (b ∷ s) t h k = and_from (p b) (list_all p (s ++ t)) (and_left (p b) (list_all p s) h) (all_append p s t (and_right (p b) (list_all p s) h) k)

-- no byte passes
abbrev pub Free : (ℕ → Bool) → List ℕ → Type 0
Free p s = list_all (λ b. not (p b)) s ≡ true

-- ---- digits, letters and separators

abbrev pub is_digit : ℕ → Bool
is_digit b = nat_le 48 b && nat_le b 57

-- letters and digits, and some bytes between them, but no colon
abbrev pub is_plain : ℕ → Bool
is_plain b = nat_le 48 b && (nat_le b 122 && not (b == 58))

-- the bytes of a printed instruction: plain bytes, blanks and commas
abbrev pub is_ink : ℕ → Bool
is_ink b = is_plain b || ((b == 32) || (b == 44))

pub digit_plain : (b : ℕ) → is_digit b ≡ true → is_plain b ≡ true
digit_plain b h = grind (arith, nat_tests)

pub digit_letter : (b : ℕ) → is_digit b ≡ true → is_letter_or_digit b ≡ true
digit_letter b h = grind (arith, nat_tests)

plain_ink : (b : ℕ) → is_plain b ≡ true → is_ink b ≡ true
plain_ink b h = rw h refl

pub plain_blank : (b : ℕ) → is_plain b ≡ true → not (is_blank b) ≡ true
plain_blank b h = grind (arith, nat_tests)

pub plain_comma : (b : ℕ) → is_plain b ≡ true → not (is_comma b) ≡ true
plain_comma b h = grind (arith, nat_tests)

ink_hash : (b : ℕ) → is_ink b ≡ true → not (is_hash b) ≡ true
ink_hash b h = grind (arith, nat_tests)

ink_colon : (b : ℕ) → is_ink b ≡ true → not (is_colon b) ≡ true
ink_colon b h = grind (arith, nat_tests)

-- what the bytes of a printed instruction are, and what none of them is
pub record Inked (s : List ℕ) : Type 0 where
  pub hash : Free is_hash s
  pub colon : Free is_colon s
  pub newline : Free is_newline s
  pub text : list_all is_text s ≡ true

pub inked : (s : List ℕ) → list_all is_ink s ≡ true → Inked s
inked s h = record {
  hash = all_implies is_ink (λ b. not (is_hash b)) ink_hash s h;
  colon = all_implies is_ink (λ b. not (is_colon b)) ink_colon s h;
  newline = all_implies is_ink (λ b. not (is_newline b)) (λ b is. grind (arith, nat_tests)) s h;
  text = all_implies is_ink is_text (λ b is. grind (arith, nat_tests)) s h;
}

-- and those of a text of plain bytes
pub ink : (s : List ℕ) → list_all is_plain s ≡ true → list_all is_ink s ≡ true
ink s h = all_implies is_plain is_ink plain_ink s h

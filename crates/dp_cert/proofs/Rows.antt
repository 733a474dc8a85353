-- A line and its row; the front of a text that may be too short.
use Rattle.std.proofs.Common.{◌≡◌, ℕ, min, true, List, length, take, drop, Option, Some, None, Result, Ok, Err, refl, sym, ap, inl, inr, arith}
use Rattle.std.specs.Prelude.{MatchResult}
use Rattle.std.proofs.lemmas.Bool.{cases_lt}
use Rattle.std.proofs.lemmas.List.{take_all, drop_all}
use Rattle.hex.specs.Hex.{decode_sized}
use Rattle.hex.specs.declared.error.FromHexError.{FromHexError}
use Rattle.dp_cert.specs.declared.error.Cause.TheVariants.{BadLine}
use Rattle.dp_cert.specs.declared.cert.Version.{Version}
use Rattle.dp_cert.specs.Reading.{is_line, digits_in, of_bytes, spelled_row, row_in, row_of}

module _ (version : Version) where
  bytes_some : (line bytes : List ℕ) (d : Result (List ℕ) FromHexError) → MatchResult d (λ b. Some bytes ≡ Some b) (λ _. Some bytes ≡ None) →
      of_bytes version line d ≡ spelled_row version line (row_in bytes)
  bytes_some line bytes (Ok b) h = let e : bytes ≡ b = cc in ap (λ (x : List ℕ). spelled_row version line (row_in x)) (sym e)
  bytes_some line bytes (Err e) h = absurd cc

  bytes_none : (line : List ℕ) (d : Result (List ℕ) FromHexError) (r : Option (List ℕ)) → r ≡ None → MatchResult d (λ b. r ≡ Some b) (λ _. r ≡ None) →
      of_bytes version line d ≡ Err BadLine
  bytes_none line (Ok b) r e h = absurd cc
  bytes_none line (Err x) r e h = refl

  pub row_some : (line bytes : List ℕ) → is_line line ≡ true → MatchResult (decode_sized (digits_in line) 153) (λ b. Some bytes ≡ Some b) (λ _. Some bytes
      ≡ None) → row_of version line ≡ spelled_row version line (row_in bytes)
  unfolding row_of
  row_some line bytes good h = rw good (bytes_some line bytes (decode_sized (digits_in line) 153) h)

  pub row_none : (line : List ℕ) (r : Option (List ℕ)) → is_line line ≡ true → r ≡ None →
      MatchResult (decode_sized (digits_in line) 153) (λ b. r ≡ Some b) (λ _. r ≡ None) → row_of version line ≡ Err BadLine
  unfolding row_of
  row_none line r good e h = rw good (bytes_none line (decode_sized (digits_in line) 153) r e h)

pub take_min : {A : Type 0} (n : ℕ) (l : List A) → take (min (length l) n) l ≡ take n l
take_min n l =
    elim (cases_lt (length l) n) [
      | inl lt ↦ let m : min (length l) n ≡ length l = omega arith in rw (m, take_all (length l) l (omega arith), take_all n l (omega arith)) refl
      | inr le ↦ let m : min (length l) n ≡ n = omega arith in rw m refl
    ]

pub drop_min : {A : Type 0} (n : ℕ) (l : List A) → drop (min (length l) n) l ≡ drop n l
drop_min n l =
    elim (cases_lt (length l) n) [
      | inl lt ↦ let m : min (length l) n ≡ length l = omega arith in rw (m, drop_all (length l) l (omega arith), drop_all n l (omega arith)) refl
      | inr le ↦ let m : min (length l) n ≡ n = omega arith in rw m refl
    ]

-- Numbers of the command line.
use Rattle.std.proofs.Common.{Bor, ◌≡◌, ℕ, ◌+◌, ◌^◌, ◌<◌, Bool, true, false, List, [], ◌∷◌, ◌++◌, length, map, get_or, drop, Option, Some, None, Result, Ok}
use Rattle.std.proofs.Common.{Err, refl, sym, ◌∙◌, ap, subst, arith, add-one}
use Rattle.std.specs.Prelude.{nat_lt, ◌&&◌, if◌then◌else◌}
use Rattle.std.specs.Char.{is_ascii_digit}
use Rattle.std.specs.List.{list_all}
use Rattle.std.specs.Result.{OkIff, result_ok}
use Rattle.std.specs.Str.{all_ascii_digits}
use Rattle.std.specs.Str.Parse.{ParsesUnsigned, digits_value}
use Rattle.std.proofs.Math.Seq.{drop-cons}
use Rattle.std.proofs.lemmas.Bool.{and_from, and_parts, lt-ltb, ltb-true}
use Rattle.std.proofs.lemmas.Str.Parse.{numerals_by_value, tells_all_ascii_digits, parse_digits}
use Rattle.dp_engine.specs.Engines.{IsAscending}
use Rattle.dp_request.specs.Operands.{ascending_from, number_in}

-- ---- one number

pub if_some : (b : Bool) (n : ℕ) → b ≡ true → Some n ≡ (if b then Some n else None)
if_some true n e = refl
if_some false n e = cc

pub if_none : (b : Bool) (n : ℕ) → (b ≡ true → ⊥) → None ≡ (if b then Some n else None)
if_none true n h = absurd (h refl)
if_none false n h = refl

pub digits_alone : (word : List ℕ) → list_all is_ascii_digit word ≡ true → all_ascii_digits word ≡ true
digits_alone [] e = refl
digits_alone (c ∷ cs) e = let parts = and_parts (is_ascii_digit c) (list_all is_ascii_digit cs) e in and_from _ _ parts.0 (digits_alone cs parts.1)

read_as : {E : Type 0} (word : List ℕ) (r : Result ℕ E) → list_all is_ascii_digit word ≡ true
    → OkIff r ((0 < length word) × (digits_value 10 word < 2 ^ 64)) (digits_value 10 word) → result_ok r ≡ number_in word
read_as word (Ok n) digits h =
    ap (λ (m : ℕ). Some m) h.1
    ∙ if_some (list_all is_ascii_digit word && (nat_lt 0 (length word) && nat_lt (digits_value 10 word) (2 ^ 64))) (digits_value 10 word)
    (and_from _ _ digits (and_from _ _ (lt-ltb 0 (length word) h.0.0) (lt-ltb (digits_value 10 word) (2 ^ 64) h.0.1)))
read_as word (Err e) digits h =
    if_none (list_all is_ascii_digit word && (nat_lt 0 (length word) && nat_lt (digits_value 10 word) (2 ^ 64))) (digits_value 10 word)
    (λ all. let rest = (and_parts (list_all is_ascii_digit word) _ all).1 in
    let parts = and_parts (nat_lt 0 (length word)) (nat_lt (digits_value 10 word) (2 ^ 64)) rest in
    h (ltb-true 0 (length word) parts.0, ltb-true (digits_value 10 word) (2 ^ 64) parts.1))

-- digits that are parsed
pub parsed : {E : Type 0} (word : List ℕ) (r : Result ℕ E) → list_all is_ascii_digit word ≡ true → ParsesUnsigned 64 10 word r → result_ok r ≡ number_in word
parsed word r digits h =
    read_as word r digits (parse_digits (numerals_by_value (λ ds. all_ascii_digits ds ≡ true) tells_all_ascii_digits) 64 word r h (digits_alone word digits))

-- ---- several numbers

-- a number that is above the one before
pub one_more : (words : List (Bor (List ℕ))) (i : ℕ) (w : Bor (List ℕ)) (last n : ℕ) (earlier : List ℕ) (all : Option (List ℕ)) → i < length words
    → number_in (get_or words i w).now ≡ Some n → last < n → ascending_from last earlier (map (λ word. word.now) (drop i words)) ≡ all
    → ascending_from n (earlier ++ n ∷ []) (map (λ word. word.now) (drop (i + 1) words)) ≡ all
one_more words i w last n earlier all lt e above so_far =
    let a : drop i words ≡ get_or words i w ∷ drop (i + 1) words = rw add-one (drop-cons words i w lt) in
    rw (a, e, lt-ltb last n above) at so_far

-- numbers above this one, each above the one before, of which the last is that one
abbrev pub Ascends : ℕ → ℕ → List ℕ → Type 0
Ascends least last [] = least ≡ last
Ascends least last (n ∷ ns) = (least < n) × Ascends n last ns

-- one more
pub ascends_more : (least last n : ℕ) (ns : List ℕ) → Ascends least last ns → last < n → Ascends least n (ns ++ n ∷ [])
ascends_more least last n [] e above = (subst (λ m. m < n) (sym e) above, refl)
ascends_more least last n (m ∷ ns) (first, rest) above = (first, ascends_more m last n ns rest above)

pub ascending : (least last : ℕ) (ns : List ℕ) → Ascends least last ns → IsAscending least ns
ascending least last [] e = tt
ascending least last (n ∷ ns) (first, rest) = (omega (arith, first), ascending n last ns rest)

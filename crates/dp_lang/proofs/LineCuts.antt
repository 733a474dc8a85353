-- Where the parts of a text are, and that a line has at least one.
use Rattle.std.proofs.Common.{◌≡◌, ℕ, zero, suc, ◌+◌, ◌-◌, ◌<◌, Bool, true, false, not, List, [], ◌∷◌, ◌++◌, length, take, drop, get_or, refl, ap, ◌∙◌, arith}
use Rattle.std.specs.List.{list_all, slice_split, before_first, after_first, position_or_len, suffix_len}
use Rattle.std.proofs.lemmas.List.Sums.{suffix_len_is}
use Rattle.dp_lang.specs.Lines.{is_blank, trim_start, trim_end, trim}
use Rattle.dp_lang.proofs.Bytes.{Free, and_left, and_right}

no : (b : Bool) → not b ≡ true → b ≡ false
no true h = absurd cc
no false h = refl

-- the first byte does not pass, and none does
head_no : (p : ℕ → Bool) (b : ℕ) (s : List ℕ) → Free p (b ∷ s) → p b ≡ false
head_no p b s h = no (p b) (and_left (not (p b)) (list_all (λ c. not (p c)) s) h)

tail_free : (p : ℕ → Bool) (b : ℕ) (s : List ℕ) → Free p (b ∷ s) → Free p s
tail_free p b s h = and_right (not (p b)) (list_all (λ c. not (p c)) s) h

pub split_at : (p : ℕ → Bool) (s : List ℕ) (y : ℕ) (rest : List ℕ) → Free p s → p y ≡ true → slice_split p (s ++ y ∷ rest) ≡ s ∷ slice_split p rest
split_at p [] y rest h k = rw k refl
split_at p (b ∷ s) y rest h k = rw (head_no p b s h, split_at p s y rest (tail_free p b s h) k) refl

pub split_none : (p : ℕ → Bool) (s : List ℕ) → Free p s → slice_split p s ≡ s ∷ []
split_none p [] h = refl
split_none p (b ∷ s) h = rw (head_no p b s h, split_none p s (tail_free p b s h)) refl

found_at : (p : ℕ → Bool) (s : List ℕ) (y : ℕ) (rest : List ℕ) → Free p s → p y ≡ true → position_or_len p (s ++ y ∷ rest) ≡ length s
found_at p [] y rest h k = rw k refl
found_at p (b ∷ s) y rest h k = rw (head_no p b s h, found_at p s y rest (tail_free p b s h) k) (omega arith)

place_none : (p : ℕ → Bool) (s : List ℕ) → Free p s → position_or_len p s ≡ length s
place_none p [] h = refl
place_none p (b ∷ s) h = rw (head_no p b s h, place_none p s (tail_free p b s h)) (omega arith)

take_front : (s t : List ℕ) → take (length s) (s ++ t) ≡ s
take_front [] t = refl
take_front (b ∷ s) t = ap (λ r. b ∷ r) (take_front s t)

drop_front : (s : List ℕ) (y : ℕ) (t : List ℕ) → drop (suc (length s)) (s ++ y ∷ t) ≡ t
drop_front [] y t = refl
drop_front (b ∷ s) y t = drop_front s y t

take_whole : (s : List ℕ) → take (length s) s ≡ s
take_whole [] = refl
take_whole (b ∷ s) = ap (λ r. b ∷ r) (take_whole s)

drop_whole : (s : List ℕ) → drop (suc (length s)) s ≡ []
drop_whole [] = refl
drop_whole (b ∷ s) = drop_whole s

pub before_at : (p : ℕ → Bool) (s : List ℕ) (y : ℕ) (rest : List ℕ) → Free p s → p y ≡ true → before_first p (s ++ y ∷ rest) ≡ s
before_at p s y rest h k = ap (λ n. take n (s ++ y ∷ rest)) (found_at p s y rest h k) ∙ take_front s (y ∷ rest)

pub after_at : (p : ℕ → Bool) (s : List ℕ) (y : ℕ) (rest : List ℕ) → Free p s → p y ≡ true → after_first p (s ++ y ∷ rest) ≡ rest
after_at p s y rest h k =
    let next : position_or_len p (s ++ y ∷ rest) + 1 ≡ suc (length s) = omega (arith, found_at p s y rest h k) in
    ap (λ n. drop n (s ++ y ∷ rest)) next ∙ drop_front s y rest

pub before_none : (p : ℕ → Bool) (s : List ℕ) → Free p s → before_first p s ≡ s
before_none p s h = ap (λ n. take n s) (place_none p s h) ∙ take_whole s

pub after_none : (p : ℕ → Bool) (s : List ℕ) → Free p s → after_first p s ≡ []
after_none p s h =
    let next : position_or_len p s + 1 ≡ suc (length s) = omega (arith, place_none p s h) in
    ap (λ n. drop n s) next ∙ drop_whole s

-- ---- blanks around a text

-- it begins with no blank
abbrev pub begins : List ℕ → Bool
begins [] = false
begins (b ∷ s) = not (is_blank b)

-- it ends with no blank
abbrev pub ends : List ℕ → Bool
ends [] = false
ends (b ∷ []) = not (is_blank b)
ends (b ∷ c ∷ s) = ends (c ∷ s)

pub trim_start_none : (s : List ℕ) → begins s ≡ true → trim_start s ≡ s
trim_start_none [] h = refl
trim_start_none (b ∷ s) h = rw (no (is_blank b) h) refl

ends_length : (s : List ℕ) → ends s ≡ true → 0 < length s
ends_length [] h = absurd cc
ends_length (b ∷ s) h = omega arith

last_no : (s : List ℕ) (n : ℕ) → length s ≡ suc n → ends s ≡ true → is_blank (get_or s n 0) ≡ false
last_no [] n e h = absurd cc
last_no (b ∷ []) zero e h = no (is_blank b) h
last_no (b ∷ []) (suc n) e h = absurd (omega arith)
last_no (b ∷ c ∷ s) zero e h = absurd (omega arith)
last_no (b ∷ c ∷ s) (suc n) e h = last_no (c ∷ s) n (omega arith) h

pub trim_end_none : (s : List ℕ) → ends s ≡ true → trim_end s ≡ s
trim_end_none s h =
    let none : suffix_len is_blank s ≡ length s - length s = suffix_len_is is_blank s (length s) 0 (omega arith) (λ k l r. absurd (omega arith))
    (λ _. last_no s (length s - 1) (omega (arith, ends_length s h)) h) in
    let whole : length s - suffix_len is_blank s ≡ length s = omega arith in
    ap (λ n. take n s) whole ∙ take_whole s

pub trim_none : (s : List ℕ) → begins s ≡ true → ends s ≡ true → trim s ≡ s
trim_none s h k = ap trim_end (trim_start_none s h) ∙ trim_end_none s k

pub ends_append : (s t : List ℕ) → ends t ≡ true → ends (s ++ t) ≡ true
ends_append [] t h = h
ends_append (b ∷ []) (c ∷ t) h = h
ends_append (b ∷ []) [] h = absurd cc
ends_append (b ∷ c ∷ s) t h = ends_append (c ∷ s) t h

-- a text without blanks begins and ends well, unless it is empty
pub free_begins : (s : List ℕ) → 0 < length s → Free is_blank s → begins s ≡ true
free_begins [] l h = absurd (omega arith)
free_begins (b ∷ s) l h = and_left (not (is_blank b)) (list_all (λ c. not (is_blank c)) s) h

pub free_ends : (s : List ℕ) → 0 < length s → Free is_blank s → ends s ≡ true
free_ends [] l h = absurd (omega arith)
free_ends (b ∷ []) l h = and_left (not (is_blank b)) true h
free_ends (b ∷ c ∷ s) l h = free_ends (c ∷ s) (omega arith) (tail_free is_blank b (c ∷ s) h)

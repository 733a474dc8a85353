-- Internal: counts of segments. Each buffer keeps its owners if no count grows.
use Rattle.std.proofs.Common.{◌≡◌, ℕ, ◌+◌, ◌≤◌, Bool, true, false, cond, List, [], ◌∷◌, ◌++◌, refl, sym, ◌∙◌, ap, arith, not, ◌&&◌, subst, ⊎_elim}
use Rattle.std.specs.Prelude.{count_by, map}
use Rattle.std.specs.List.{AllByRecursion}
use Rattle.std.proofs.lemmas.List.Sums.{sum_by-append, sum_by-cons}
use Rattle.std.proofs.lemmas.Bool.{and_from, cases_Bool}
use Rattle.dp_model.specs.declared.env.PoolSpec.{PoolSpec}
use Rattle.dp_model.specs.Packets.{Segment, refs, AreOwned, direct}
use Rattle.dp_model.specs.Machine.{live}
use Rattle.dp_model.specs.Buffers.{Number, same_number, IsNumber, AreDistinct}
use Rattle.dp_model.specs.Laws.Cases.{one_if}
use Rattle.dp_model.specs.Laws.Stored.{same_number_refl, same_is, same_number_sym}

-- how many segments pass a test
abbrev pub tally : (Segment → Bool) → List Segment → ℕ
tally test xs = count_by test xs

-- one more segment
pub tally-cons : (test : Segment → Bool) (s : Segment) (rest : List Segment) → tally test (s ∷ rest) ≡ one_if (test s) + tally test rest
tally-cons test s rest = sum_by-cons (λ x. cond (test x) 1 0) s rest

-- two lists joined
pub tally-append : (test : Segment → Bool) (xs ys : List Segment) → tally test (xs ++ ys) ≡ tally test xs + tally test ys
tally-append test xs ys = sum_by-append (λ x. cond (test x) 1 0) xs ys

-- a positive count has a segment that passes, for which everything holds that holds for each
pub tally_found : (test : Segment → Bool) (P : Segment → Type 0) (xs : List Segment) → AllByRecursion P xs → 1 ≤ tally test xs
    → (s : Segment) × (test s ≡ true) × P s
tally_found test P [] all one = absurd (omega arith)
tally_found test P (s ∷ rest) all one = go (test s) refl (tally_found test P rest all.1)
  where
    go : (b : Bool) → test s ≡ b → (1 ≤ tally test rest → (t : Segment) × (test t ≡ true) × P t) → (t : Segment) × (test t ≡ true) × P t
    go true e later = (s, e, all.0)
    go false e later = let none : one_if (test s) ≡ 0 = ap one_if e in later (omega (arith, one, none, tally-cons test s rest))

-- none passes if each fails
pub tally_none : (test : Segment → Bool) (xs : List Segment) → AllByRecursion (λ s. test s ≡ false) xs → tally test xs ≡ 0
tally_none test [] all = refl
tally_none test (s ∷ rest) all = let none : one_if (test s) ≡ 0 = ap one_if all.0 in omega (arith, none, tally-cons test s rest, tally_none test rest all.1)

-- a segment is known to be among others since every count includes it
abbrev pub IsAmong : Segment → List Segment → Type 0
IsAmong s xs = (test : Segment → Bool) → test s ≡ true → 1 ≤ tally test xs

-- what holds of each segment of the longer list holds of those among it
pub all_among : (P : Segment → Type 0) (xs : List Segment) → ((s : Segment) → IsAmong s xs → P s) → AllByRecursion P xs
all_among P [] each = tt
all_among P (s ∷ rest) each = (
  each s (λ test yes. let one : one_if (test s) ≡ 1 = ap one_if yes in omega (arith, one, tally-cons test s rest)),
  all_among P rest (λ t among. each t (λ test yes. omega (arith, among test yes, tally-cons test s rest))),
)

-- none of them passes
pub tally_zero : (test : Segment → Bool) (xs : List Segment) → tally test xs ≡ 0 → AllByRecursion (λ s. test s ≡ false) xs
tally_zero test [] none = tt
tally_zero test (s ∷ rest) none = (go (test s) refl, tally_zero test rest (omega (arith, none, tally-cons test s rest)))
  where
    go : (b : Bool) → test s ≡ b → test s ≡ false
    go false e = e
    go true e = let one : one_if (test s) ≡ 1 = ap one_if e in absurd (omega (arith, one, none, tally-cons test s rest))

-- whether the number is the segment's mbuf
abbrev pub has_mbuf : Number → Segment → Bool
has_mbuf n s = same_number s.mbuf n

-- the same, and it is not the segment's buffer
abbrev pub is_indirect_at : Number → Segment → Bool
is_indirect_at n s = same_number s.mbuf n && not (same_number s.buffer n)

-- how many live segments have it as their mbuf
abbrev pub mbufs : List Segment → Number → ℕ
mbufs live n = tally (has_mbuf n) live

-- how many of them are indirect
abbrev pub indirects : List Segment → Number → ℕ
indirects live n = tally (is_indirect_at n) live

-- ownership in terms of counts
pub record AreCounted (pools : List PoolSpec) (live : List Segment) : Type 0 where
  pub exist : (n : Number) → 1 ≤ mbufs live n → IsNumber pools n
  pub once : (n : Number) → mbufs live n ≤ 1
  pub direct : (n : Number) → 1 ≤ refs live n → indirects live n ≡ 0

-- equal numbers are the same
pub same_of : (a b : Number) → a ≡ b → same_number a b ≡ true
same_of a b e = ap (same_number a) (sym e) ∙ same_number_refl a

distinct_none : (n : Number) (rest : List Segment) → mbufs rest n ≡ 0 → AllByRecursion (λ m. same_number n m ≡ false) (map (λ s. s.mbuf) rest)
distinct_none n [] none = tt
distinct_none n (s ∷ rest) none =
    let all = tally_zero (has_mbuf n) (s ∷ rest) none in
    (same_number_sym n s.mbuf ∙ all.0, distinct_none n rest (omega (arith, none, tally-cons (has_mbuf n) s rest)))

pub distinct_mbufs : (live : List Segment) → ((n : Number) → mbufs live n ≤ 1) → AreDistinct (map (λ s. s.mbuf) live)
distinct_mbufs [] once = tt
distinct_mbufs (s ∷ rest) once =
    let one : one_if (same_number s.mbuf s.mbuf) ≡ 1 = ap one_if (same_number_refl s.mbuf) in (
      distinct_none s.mbuf rest (omega (arith, one, once s.mbuf, tally-cons (has_mbuf s.mbuf) s rest)),
      distinct_mbufs rest (λ n. omega (arith, once n, tally-cons (has_mbuf n) s rest)),
    )

-- a segment whose mbuf is some segment's buffer is direct
direct_of : (live : List Segment) → ((n : Number) → 1 ≤ refs live n → indirects live n ≡ 0) → (s t : Segment) → IsAmong s live → IsAmong t live
    → s.buffer ≡ t.mbuf → t.buffer ≡ t.mbuf
direct_of live direct s t there here e =
    let none = direct t.mbuf (there (λ x. same_number x.buffer t.mbuf) (same_of s.buffer t.mbuf e)) in
    same_is t.buffer t.mbuf (⊎_elim
    (λ yes. yes)
    (λ no. let hit : is_indirect_at t.mbuf t ≡ true = and_from (same_number t.mbuf t.mbuf) (not (same_number t.buffer t.mbuf)) (same_number_refl t.mbuf)
    (ap not no) in
    absurd (omega (arith, none, here (is_indirect_at t.mbuf) hit)))
    (cases_Bool (same_number t.buffer t.mbuf)))

-- ownership follows from counts
pub owned_of_counts : (pools : List PoolSpec) (live : List Segment) → AreCounted pools live → AreOwned pools live
owned_of_counts pools live counts = record {
  mbufs = all_among (λ s. IsNumber pools s.mbuf) live (λ s among. counts.exist s.mbuf (among (has_mbuf s.mbuf) (same_number_refl s.mbuf)));
  once = distinct_mbufs live counts.once;
  direct = all_among (λ s. AllByRecursion (λ t. s.buffer ≡ t.mbuf → t.buffer ≡ t.mbuf) live) live
      (λ s there. all_among (λ t. s.buffer ≡ t.mbuf → t.buffer ≡ t.mbuf) live (λ t here. direct_of live counts.direct s t there here));
}

none_again : (n : Number) (rest : List Segment) → AllByRecursion (λ m. same_number n m ≡ false) (map (λ s. s.mbuf) rest) → mbufs rest n ≡ 0
none_again n [] all = refl
none_again n (s ∷ rest) all =
    let none : one_if (same_number s.mbuf n) ≡ 0 = ap one_if (same_number_sym s.mbuf n ∙ all.0) in
    omega (arith, none, none_again n rest all.1, tally-cons (has_mbuf n) s rest)

once_of_distinct : (live : List Segment) (n : Number) → AreDistinct (map (λ s. s.mbuf) live) → mbufs live n ≤ 1
once_of_distinct [] n distinct = omega arith
once_of_distinct (s ∷ rest) n distinct = go (same_number s.mbuf n) refl (once_of_distinct rest n distinct.1)
  where
    go : (b : Bool) → same_number s.mbuf n ≡ b → mbufs rest n ≤ 1 → mbufs (s ∷ rest) n ≤ 1
    go true e few =
        let one : one_if (same_number s.mbuf n) ≡ 1 = ap one_if e in
        let none : mbufs rest n ≡ 0 = subst (λ m. mbufs rest m ≡ 0) (same_is s.mbuf n e) (none_again s.mbuf rest distinct.0) in
        omega (arith, one, none, tally-cons (has_mbuf n) s rest)
    go false e few = let none : one_if (same_number s.mbuf n) ≡ 0 = ap one_if e in omega (arith, none, few, tally-cons (has_mbuf n) s rest)

not_indirect : (n : Number) (s t : Segment) → same_number s.buffer n ≡ true → (s.buffer ≡ t.mbuf → t.buffer ≡ t.mbuf) → is_indirect_at n t ≡ false
not_indirect n s t is direct = go (same_number t.mbuf n) (same_number t.buffer n) refl refl
  where
    go : (x y : Bool) → same_number t.mbuf n ≡ x → same_number t.buffer n ≡ y → (x && not y) ≡ false
    go false y e f = refl
    go true true e f = refl
    go true false e f =
        let there : t.mbuf ≡ n = same_is t.mbuf n e in
        let own : t.buffer ≡ t.mbuf = direct (same_is s.buffer n is ∙ sym there) in
        let yes : same_number t.buffer n ≡ true = same_of t.buffer n (own ∙ there) in cc

all_direct : (n : Number) (s : Segment) (live : List Segment) → same_number s.buffer n ≡ true
    → AllByRecursion (λ t. s.buffer ≡ t.mbuf → t.buffer ≡ t.mbuf) live → AllByRecursion (λ t. is_indirect_at n t ≡ false) live
all_direct n s [] is all = tt
all_direct n s (t ∷ rest) is all = (not_indirect n s t is all.0, all_direct n s rest is all.1)

-- and counts from ownership
pub counts_of_owned : (pools : List PoolSpec) (live : List Segment) → AreOwned pools live → AreCounted pools live
counts_of_owned pools live owned = record {
  exist = λ n one. let (s, hit, is) = tally_found (has_mbuf n) (λ s. IsNumber pools s.mbuf) live owned.mbufs one in subst (IsNumber pools)
      (same_is s.mbuf n hit) is;
  once = λ n. once_of_distinct live n owned.once;
  direct = λ n one.
      let (s, hit, all) = tally_found (λ s. same_number s.buffer n)
      (λ s. AllByRecursion (λ t. s.buffer ≡ t.mbuf → t.buffer ≡ t.mbuf) live) live owned.direct one in
      tally_none (is_indirect_at n) live (all_direct n s live hit all);
}

-- no more segments than before, as far as mbufs and buffers go
pub record AreFewer (live live' : List Segment) : Type 0 where
  pub mbufs : (n : Number) → mbufs live' n ≤ mbufs live n
  pub buffers : (n : Number) → refs live' n ≤ refs live n
  pub indirects : (n : Number) → indirects live' n ≤ indirects live n

-- buffers keep their owners if no count grows
pub fewer_owned : (pools : List PoolSpec) (live live' : List Segment) → AreFewer live live' → AreOwned pools live → AreOwned pools live'
fewer_owned pools live live' fewer owned =
    let counts = counts_of_owned pools live owned in
    owned_of_counts pools live' (record {
      exist = λ n one. counts.exist n (omega (arith, one, fewer.mbufs n));
      once = λ n. omega (arith, counts.once n, fewer.mbufs n);
      direct = λ n one. omega (arith, counts.direct n (omega (arith, one, fewer.buffers n)), fewer.indirects n);
    })

-- no count grows if none grows for any test
pub fewer_by : (live live' : List Segment) → ((test : Segment → Bool) → tally test live' ≤ tally test live) → AreFewer live live'
fewer_by live live' le = record {
  mbufs = λ n. le (has_mbuf n);
  buffers = λ n. le (λ s. same_number s.buffer n);
  indirects = λ n. le (is_indirect_at n);
}

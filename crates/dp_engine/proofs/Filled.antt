-- Lists whose first slots are filled, and sums over lists.
use Rattle.std.proofs.Common.{◌≡◌, ℕ, zero, suc, ◌+◌, ◌<◌, ◌≤◌, List, [], ◌∷◌, length, take, drop, get_or, Option, Some, None, refl, sym, ap, subst, arith}
use Rattle.std.specs.Prelude.{slice_set, IfSome}
use Rattle.std.specs.List.{AllByRecursion}
use Rattle.std.proofs.lemmas.List.{drop_more, drop_all}
use Rattle.dp_region.specs.Ownership.{Home}
use Rattle.dp_ring.specs.Rings.{RingView}
use Rattle.dp_pool.specs.Pools.{PoolView}
use Rattle.dp_model.specs.declared.env.PoolSpec.{PoolSpec}
use Rattle.dp_engine.specs.Needs.{total}
use Rattle.dp_engine.specs.Memories.{AreFilled, IsNewRing, IsNewPool, filled, RingsIn, PoolsIn}

-- one slot more
pub fills_next : {X V : Type 0} → (P : X → V → Type 0) (xs : List X) (slots : List (Option V)) (i : ℕ) (d : X) (v : V) → i < length xs → i < length slots
    → AreFilled P (take i xs) slots → P (get_or xs i d) v → AreFilled P (take (suc i) xs) (slice_set slots i (Some v))
fills_next P [] slots i d v inside room are holds = absurd (omega (arith, inside))
fills_next P (x ∷ xs) [] i d v inside room are holds = absurd (omega (arith, room))
fills_next P (x ∷ xs) (o ∷ slots) zero d v inside room are holds = (holds, are.1)
fills_next P (x ∷ xs) (o ∷ slots) (suc i) d v inside room are holds = (
  are.0,
  fills_next P xs slots i d v (omega (arith, inside)) (omega (arith, room)) are.1 holds,
)

-- it was empty
pub next_empty : {X V : Type 0} → (P : X → V → Type 0) (xs : List X) (slots : List (Option V)) (i : ℕ) (o : Option V) → i < length xs → i < length slots →
    AreFilled P (take i xs) slots → get_or slots i o ≡ None
next_empty P [] slots i o inside room are = absurd (omega (arith, inside))
next_empty P (x ∷ xs) [] i o inside room are = absurd (omega (arith, room))
next_empty P (x ∷ xs) (s ∷ slots) zero o inside room are = are.0
next_empty P (x ∷ xs) (s ∷ slots) (suc i) o inside room are = next_empty P xs slots i o (omega (arith, inside)) (omega (arith, room)) are.1

pub none_filled : {V : Type 0} → (slots : List (Option V)) → AllByRecursion (λ o. o ≡ None) slots → filled slots ≡ 0
none_filled [] all = refl
none_filled (None ∷ slots) all = let more = none_filled slots all.1 in omega arith
none_filled (Some v ∷ slots) all = let no : Some v ≡ None = all.0 in cc

pub filled_count : {X V : Type 0} → (P : X → V → Type 0) (xs : List X) (slots : List (Option V)) → AreFilled P xs slots → filled slots ≡ length xs
filled_count P [] slots are = none_filled slots are
filled_count P (x ∷ xs) [] are = absurd are
filled_count P (x ∷ xs) (None ∷ slots) are = absurd are.0
filled_count P (x ∷ xs) (Some v ∷ slots) are = let more = filled_count P xs slots are.1 in omega arith

-- what all of them are
each_filled : {X V : Type 0} → (P : X → V → Type 0) (Q : V → Type 0) → ((x : X) (v : V) → P x v → Q v) → (xs : List X) (slots : List (Option V)) →
    AreFilled P xs slots → AllByRecursion (λ o. IfSome o Q) slots
each_filled P Q step [] [] are = tt
each_filled P Q step [] (o ∷ slots) are = (subst (λ (s : Option _). IfSome s Q) (sym are.0) tt, each_filled P Q step [] slots are.1)
each_filled P Q step (x ∷ xs) [] are = absurd are
each_filled P Q step (x ∷ xs) (None ∷ slots) are = absurd are.0
each_filled P Q step (x ∷ xs) (Some v ∷ slots) are = (step x v are.0, each_filled P Q step xs slots are.1)

pub rings_stand : (home : Home) (counts : List ℕ) (slots : List (Option RingView)) → AreFilled (IsNewRing home) counts slots → RingsIn home slots
rings_stand home counts slots are = each_filled (IsNewRing home) (λ r. r.home ≡ home) (λ n r new. new.home_is) counts slots are

pub pools_stand : (home : Home) (specs : List PoolSpec) (slots : List (Option PoolView)) → AreFilled (IsNewPool home) specs slots → PoolsIn home slots
pools_stand home specs slots are = each_filled (IsNewPool home) (λ p. p.zones.home ≡ home) (λ s p new. new.home_is) specs slots are

-- ---- sums, and facts of each

pub total_more : {X : Type 0} → (f : X → ℕ) (xs : List X) (i : ℕ) (d : X) → i < length xs → total f (drop i xs) ≡ f (get_or xs i d) + total f (drop (i + 1) xs)
total_more f xs i d inside = ap (total f) (drop_more xs i d inside)

pub total_drop : {X : Type 0} → (f : X → ℕ) (xs : List X) (i : ℕ) → total f (drop i xs) ≤ total f xs
total_drop f xs zero = omega arith
total_drop f [] (suc i) = omega arith
total_drop f (x ∷ xs) (suc i) = let more = total_drop f xs i in omega arith

pub total_none : {X : Type 0} → (f : X → ℕ) (xs : List X) (i : ℕ) → length xs ≤ i → total f (drop i xs) ≡ 0
total_none f xs i past = ap (total f) (drop_all i xs past)

-- all but the last, and the last
pub total_last : {X : Type 0} → (f : X → ℕ) (xs : List X) (i : ℕ) (d : X) → i + 1 ≡ length xs → total f (take i xs) + f (get_or xs i d) ≡ total f xs
total_last f [] i d is = absurd (omega (arith, is))
total_last f (x ∷ []) zero d is = omega arith
total_last f (x ∷ y ∷ xs) zero d is = absurd (omega (arith, is))
total_last f (x ∷ xs) (suc i) d is = let more = total_last f xs i d (omega (arith, is)) in omega arith

pub all_at : {X : Type 0} → (P : X → Type 0) (xs : List X) (i : ℕ) (d : X) → i < length xs → AllByRecursion P xs → P (get_or xs i d)
all_at P [] i d inside all = absurd (omega (arith, inside))
all_at P (x ∷ xs) zero d inside all = all.0
all_at P (x ∷ xs) (suc i) d inside all = all_at P xs i d (omega (arith, inside)) all.1

pub all_take : {X : Type 0} → (P : X → Type 0) (xs : List X) (i : ℕ) → AllByRecursion P xs → AllByRecursion P (take i xs)
all_take P xs zero all = tt
all_take P [] (suc i) all = tt
all_take P (x ∷ xs) (suc i) all = (all.0, all_take P xs i all.1)

pub less_left : {X : Type 0} → (f : X → ℕ) (xs : List X) (i : ℕ) (d : X) (new mid old : ℕ) → i < length xs → new + f (get_or xs i d) ≡ mid →
    mid + total f xs ≡ old + total f (drop i xs)
    → new + total f xs ≡ old + total f (drop (i + 1) xs)
less_left f xs i d new mid old inside less were = let more = total_more f xs i d inside in omega arith

pub next_filled : {X V : Type 0} (New : Home → X → V → Type 0) (home here : Home) (xs : List X) (slots : List (Option V)) (k : ℕ) (d : X) (v : V) (o : Option V)
    → k < length xs → k < length slots → here ≡ home → AreFilled (New home) (take k xs) slots → New here (get_or xs k d) v → o ≡ Some v
    → AreFilled (New home) (take (k + 1) xs) (slice_set slots k o)
next_filled {V = V} New home here xs slots k d v o inside room same are new is =
    let one : suc k ≡ k + 1 = omega arith in
    subst (λ (n : ℕ). AreFilled (New home) (take n xs) (slice_set slots k o)) one
    (subst (λ (q : Option V). AreFilled (New home) (take (suc k) xs) (slice_set slots k q)) (sym is)
    (fills_next (New home) xs slots k d v inside room are (subst (λ (h : Home). New h (get_or xs k d) v) same new)))

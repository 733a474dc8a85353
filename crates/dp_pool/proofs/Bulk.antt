-- Several gets, and several puts, one after another.
use Rattle.std.proofs.Common.{◌≡◌, ℕ, zero, suc, ◌+◌, Bool, true, false, not, cond, List, [], ◌∷◌, ◌++◌, length, slice_get, slice_set, Some, refl, sym, ap}
use Rattle.std.proofs.Common.{subst, ◌∙◌, arith}
use Rattle.std.specs.Prelude.{unwrap_or}
use Rattle.std.proofs.lemmas.Bool.{true≢false}
use Rattle.std.proofs.lemmas.Option.{none-some}
use Rattle.std.proofs.lemmas.List.{length-set}
use Rattle.std.proofs.lemmas.List.Sums.{sum_by-cons}
use Rattle.dp_zone.specs.Zones.{ZoneView}
use Rattle.dp_pool.specs.Queues.{IndexView, in_count, taken, back, handed, returned, AreHanded, AreOut, all_returned}
use Rattle.dp_pool.specs.Pools.{PoolView, AreGot, got, put_back, all_back}
use Rattle.dp_pool.proofs.Pools.{pool_of}

-- one fewer is in
pub in_count_taken : (out : List Bool) (i : ℕ) → slice_get out i ≡ Some false → in_count (taken i out) + 1 ≡ in_count out
in_count_taken [] i is = absurd (none-some false is)
in_count_taken (true ∷ out) zero is = absurd (true≢false (ap (λ o. unwrap_or o false) is))
in_count_taken (false ∷ out) zero is =
    let old = sum_by-cons (λ b. cond (not b) 1 0) false out in
    let new = sum_by-cons (λ b. cond (not b) 1 0) true out in
    omega (arith, old, new)
in_count_taken (b ∷ out) (suc i) is =
    let old = sum_by-cons (λ b. cond (not b) 1 0) b out in
    let new = sum_by-cons (λ b. cond (not b) 1 0) b (taken i out) in
    let rest = in_count_taken out i is in
    omega (arith, old, new, rest)

-- one more get
pub are_got_more : (old mid : PoolView) (is : List ℕ) (i : ℕ) → AreGot old is mid → slice_get mid.out i ≡ Some false → AreGot old (is ++ i ∷ []) (got mid i)
are_got_more old mid [] i same was_in = (ap (λ v. slice_get v.out i) (sym same) ∙ was_in, ap (λ v. got v i) same)
are_got_more old mid (j ∷ is) i more was_in = (more.0, are_got_more (got old j) mid is i more.1 was_in)

-- what gets keep
pub got_keeps : (is : List ℕ) (old new : PoolView) → AreGot old is new → (new.zones ≡ old.zones) × (new.objects ≡ old.objects) × (new.size ≡ old.size)
    × (new.cache ≡ old.cache)
got_keeps [] old new same = (ap (λ v. v.zones) same, ap (λ v. v.objects) same, ap (λ v. v.size) same, ap (λ v. v.cache) same)
got_keeps (i ∷ is) old new more = got_keeps is (got old i) new more.1

-- ---- what was taken is out

get_other : (xs : List Bool) (i j : ℕ) (b : Bool) → (i ≡ j → ⊥) → slice_get (slice_set xs i b) j ≡ slice_get xs j
get_other [] i j b off = refl
get_other (x ∷ xs) zero zero b off = absurd (off refl)
get_other (x ∷ xs) zero (suc j) b off = refl
get_other (x ∷ xs) (suc i) zero b off = refl
get_other (x ∷ xs) (suc i) (suc j) b off = get_other xs i j b (λ e. off (ap suc e))

get_same : (xs : List Bool) (i : ℕ) (b c : Bool) → slice_get xs i ≡ Some c → slice_get (slice_set xs i b) i ≡ Some b
get_same [] i b c is = absurd (none-some c is)
get_same (x ∷ xs) zero b c is = refl
get_same (x ∷ xs) (suc i) b c is = get_same xs i b c is

set_swap : (xs : List Bool) (i j : ℕ) (a b : Bool) → (i ≡ j → ⊥) → slice_set (slice_set xs i a) j b ≡ slice_set (slice_set xs j b) i a
set_swap [] i j a b off = refl
set_swap (x ∷ xs) zero zero a b off = absurd (off refl)
set_swap (x ∷ xs) zero (suc j) a b off = refl
set_swap (x ∷ xs) (suc i) zero a b off = refl
set_swap (x ∷ xs) (suc i) (suc j) a b off = ap (λ l. x ∷ l) (set_swap xs i j a b (λ e. off (ap suc e)))

apart : (out : List Bool) (i j : ℕ) → slice_get out i ≡ Some true → slice_get out j ≡ Some false → i ≡ j → ⊥
apart out i j first second same = true≢false (ap (λ o. unwrap_or o false) (sym first ∙ (ap (slice_get out) same ∙ second)))

-- an index that is out stays out while others are taken
stays_out : (is : List ℕ) (old new : PoolView) (i : ℕ) → AreGot old is new → slice_get old.out i ≡ Some true → slice_get new.out i ≡ Some true
stays_out [] old new i same out = ap (λ v. slice_get v.out i) same ∙ out
stays_out (j ∷ is) old new i more out = stays_out is (got old j) new i more.1 (get_other old.out j i true (λ e. apart old.out i j out more.0 (sym e)) ∙ out)

-- putting it back commutes with the others
back_beside : (is : List ℕ) (old new : PoolView) (i : ℕ) (xs : List Bool) → AreGot old is new → slice_get old.out i ≡ Some true → AreOut xs is →
    AreOut (back i xs) is
back_beside [] old new i xs same out are = tt
back_beside (j ∷ is) old new i xs more out are =
    let off : i ≡ j → ⊥ = apart old.out i j out more.0 in
    let still = get_other old.out j i true (λ e. off (sym e)) ∙ out in (
      get_other xs i j false off ∙ are.0,
      subst (λ ys. AreOut ys is) (set_swap xs j i false false (λ e. off (sym e))) (back_beside is (got old j) new i (back j xs) more.1 still are.1),
    )

pub got_out : (is : List ℕ) (old new : PoolView) → AreGot old is new → AreOut new.out is
got_out [] old new same = tt
got_out (i ∷ is) old new more =
    let here = get_same old.out i true false more.0 in
    (stays_out is (got old i) new i more.1 here, back_beside is (got old i) new i new.out more.1 here (got_out is (got old i) new more.1))

-- ---- what puts keep

all_kept : (is : List ℕ) (p : PoolView) → ((all_back p is).zones ≡ p.zones) × ((all_back p is).objects ≡ p.objects) × ((all_back p is).size ≡ p.size)
    × ((all_back p is).cache ≡ p.cache)
all_kept [] p = (refl, refl, refl, refl)
all_kept (i ∷ is) p = all_kept is (put_back p i)

pub back_keeps : (is : List ℕ) (old new : PoolView) → new ≡ all_back old is → (new.zones ≡ old.zones) × (new.objects ≡ old.objects) × (new.size ≡ old.size)
    × (new.cache ≡ old.cache)
back_keeps is old new e =
    let (zones, objects, size, cache) = all_kept is old in
    (ap (λ v. v.zones) e ∙ zones, ap (λ v. v.objects) e ∙ objects, ap (λ v. v.size) e ∙ size, ap (λ v. v.cache) e ∙ cache)

-- ---- the pool over its indexes

pub handed_got : (objects : ZoneView) (size count : ℕ) (is : List ℕ) (old new : IndexView) → AreHanded old is new →
    AreGot (pool_of objects old count size) is (pool_of objects new count size)
handed_got objects size count [] old new same = ap (λ v. pool_of objects v count size) same
handed_got objects size count (i ∷ is) old new more = (more.0, handed_got objects size count is (handed old i) new more.1)

pub returned_back : (objects : ZoneView) (size count : ℕ) (is : List ℕ) (v : IndexView) → pool_of objects (all_returned v is) count size
    ≡ all_back (pool_of objects v count size) is
returned_back objects size count [] v = refl
returned_back objects size count (i ∷ is) v = returned_back objects size count is (returned v i)

-- what their indexes keep
pub record Keeps (old new : IndexView) : Type 0 where
  pub count : length new.out ≡ length old.out
  pub cache : new.cache ≡ old.cache
  pub home : new.home ≡ old.home

pub handed_keeps : (is : List ℕ) (old new : IndexView) → AreHanded old is new → Keeps old new
handed_keeps [] old new same = record { count = ap (λ v. length v.out) same; cache = ap (λ v. v.cache) same; home = ap (λ v. v.home) same }
handed_keeps (i ∷ is) old new more =
    let rest = handed_keeps is (handed old i) new more.1 in
    record { count = rest.count ∙ length-set old.out i true; cache = rest.cache; home = rest.home }

pub returned_keeps : (is : List ℕ) (v : IndexView) → Keeps v (all_returned v is)
returned_keeps [] v = record { count = refl; cache = refl; home = refl }
returned_keeps (i ∷ is) v =
    let rest = returned_keeps is (returned v i) in record { count = rest.count ∙ length-set v.out i false; cache = rest.cache; home = rest.home }

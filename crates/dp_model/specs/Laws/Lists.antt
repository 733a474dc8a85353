-- Internal: lists: what a write keeps, and what holds of each element.
use Rattle.std.proofs.Common.{◌≡◌, ◌≢◌, ℕ, zero, suc, ◌+◌, Bool, true, List, [], ◌∷◌, ◌++◌, Some, refl, ap, arith, ◌<◌, length, subst, ◌&&◌, add-one, drop}
use Rattle.std.proofs.Common.{slice_get, slice_set, take, sym, map, get_or, replicate}
use Rattle.std.specs.Prelude.{slice_get, slice_set}
use Rattle.std.proofs.lemmas.Option.{same_Some}
use Rattle.std.specs.List.{AllByRecursion, AllZip, list_all}
use Rattle.std.proofs.lemmas.Bool.{and_parts}
use Rattle.dp_model.specs.Rows.{at_each_index}

-- another element of a list after a write
pub get_set_other : {X : Type 0} (xs : List X) (p i : ℕ) (x : X) → i ≢ p → slice_get (slice_set xs p x) i ≡ slice_get xs i
get_set_other [] p i x ne = refl
get_set_other (y ∷ xs) zero zero x ne = absurd (ne refl)
get_set_other (y ∷ xs) zero (suc i) x ne = refl
get_set_other (y ∷ xs) (suc p) zero x ne = refl
get_set_other (y ∷ xs) (suc p) (suc i) x ne = get_set_other xs p i x (λ e. ne (ap suc e))

-- the element that is written
pub get_set_same : {X : Type 0} (xs : List X) (p : ℕ) (x y : X) → slice_get xs p ≡ Some y → slice_get (slice_set xs p x) p ≡ Some x
get_set_same [] p x y h = cc
get_set_same (z ∷ xs) zero x y h = refl
get_set_same (z ∷ xs) (suc p) x y h = get_set_same xs p x y h

-- an element that is written where it is
pub set_itself : {X : Type 0} (xs : List X) (p : ℕ) (x : X) → slice_get xs p ≡ Some x → slice_set xs p x ≡ xs
set_itself [] p x h = refl
set_itself (y ∷ xs) zero x h = ap (λ z. z ∷ xs) (sym (same_Some y x h))
set_itself (y ∷ xs) (suc p) x h = ap (λ z. y ∷ z) (set_itself xs p x h)

-- an element's image
pub map_get : {X Y : Type 0} (f : X → Y) (xs : List X) (i : ℕ) (x : X) → slice_get xs i ≡ Some x → slice_get (map f xs) i ≡ Some (f x)
map_get f [] i x e = cc
map_get f (y ∷ xs) zero x e = ap (λ x. Some (f x)) (same_Some y x e)
map_get f (y ∷ xs) (suc i) x e = map_get f xs i x e

-- a list of one value, read with that value as the default
pub get_replicate : {X : Type 0} (n i : ℕ) (x : X) → get_or (replicate n x) i x ≡ x
get_replicate zero i x = refl
get_replicate (suc n) zero x = refl
get_replicate (suc n) (suc i) x = get_replicate n i x

-- the first elements, and one more
pub take_more : {X : Type 0} (xs : List X) (i : ℕ) (x : X) → slice_get xs i ≡ Some x → take (suc i) xs ≡ take i xs ++ x ∷ []
take_more [] i x e = cc
take_more (y ∷ xs) zero x e = ap (λ z. z ∷ []) (same_Some y x e)
take_more (y ∷ xs) (suc i) x e = ap (λ l. y ∷ l) (take_more xs i x e)

-- each index within the length has an element
pub get_within : {X : Type 0} (xs : List X) (i : ℕ) → i < length xs → (x : X) × (slice_get xs i ≡ Some x)
get_within [] i h = absurd (omega arith)
get_within (x ∷ xs) zero h = (x, refl)
get_within (x ∷ xs) (suc i) h = get_within xs i (omega arith)

-- two lists that are related at each index: the partner of an element of the second
pub zip_back : {X Y : Type 0} (R : X → Y → Type 0) (xs : List X) (ys : List Y) (i : ℕ) (y : Y) → AllZip R xs ys → slice_get ys i ≡ Some y
    → (x : X) × (slice_get xs i ≡ Some x) × R x y
zip_back R [] [] i y h e = cc
zip_back R [] (z ∷ ys) i y h e = absurd h
zip_back R (x ∷ xs) [] i y h e = absurd h
zip_back R (x ∷ xs) (z ∷ ys) zero y h e = (x, refl, subst (R x) (same_Some z y e) h.0)
zip_back R (x ∷ xs) (z ∷ ys) (suc i) y h e = zip_back R xs ys i y h.1 e

-- what holds of all of two joined lists holds of the first
pub all_left : {X : Type 0} (P : X → Type 0) (xs ys : List X) → AllByRecursion P (xs ++ ys) → AllByRecursion P xs
all_left P [] ys h = tt
all_left P (x ∷ xs) ys h = (h.0, all_left P xs ys h.1)

-- and of the second
pub all_right : {X : Type 0} (P : X → Type 0) (xs ys : List X) → AllByRecursion P (xs ++ ys) → AllByRecursion P ys
all_right P [] ys h = h
all_right P (x ∷ xs) ys h = all_right P xs ys h.1

-- what holds of all holds of each
pub each_at : {X : Type 0} (P : X → Type 0) (xs : List X) (p : ℕ) (x : X) → AllByRecursion P xs → slice_get xs p ≡ Some x → P x
each_at P [] p x all e = cc
each_at P (y ∷ xs) zero x all e = subst P (same_Some y x e) all.0
each_at P (y ∷ xs) (suc p) x all e = each_at P xs p x all.1 e

-- and what holds of each holds of all
pub each_slot : {X : Type 0} (P : X → Type 0) (xs : List X) → ((k : ℕ) (x : X) → slice_get xs k ≡ Some x → P x) → AllByRecursion P xs
each_slot P [] all = tt
each_slot P (x ∷ xs) all = (all 0 x refl, each_slot P xs (λ k y h. all (suc k) y h))

-- tests at each index, from one on
each_step : {A : Type 0} → (test : A → A → Bool) (xs ys : List A) (i : ℕ) (x y : A) → slice_get xs i ≡ Some x → slice_get ys i ≡ Some y
    → at_each_index test (drop i xs) (drop i ys) ≡ (test x y && at_each_index test (drop (suc i) xs) (drop (suc i) ys))
each_step test (x' ∷ xs) (y' ∷ ys) zero x y e f = cc
each_step test (x' ∷ xs) (y' ∷ ys) (suc i) x y e f = each_step test xs ys i x y e f
each_step test [] ys i x y e f = cc
each_step test (x' ∷ xs) [] i x y e f = cc

-- tests at each index, from one on: the one there, and the rest
pub each_index_drop : {A : Type 0} → (test : A → A → Bool) (xs ys : List A) (i : ℕ) (x y : A) → slice_get xs i ≡ Some x → slice_get ys i ≡ Some y
    → at_each_index test (drop i xs) (drop i ys) ≡ (test x y && at_each_index test (drop (i + 1) xs) (drop (i + 1) ys))
each_index_drop test xs ys i x y e f = rw add-one (each_step test xs ys i x y e f)

-- a test that all pass is passed by each
pub all_at : {A : Type 0} → (test : A → Bool) (xs : List A) (i : ℕ) (x : A) → list_all test xs ≡ true → slice_get xs i ≡ Some x → test x ≡ true
all_at test (y ∷ xs) zero x e f = let here = (and_parts (test y) (list_all test xs) e).0 in cc
all_at test (y ∷ xs) (suc i) x e f = all_at test xs i x (and_parts (test y) (list_all test xs) e).1 f
all_at test [] i x e f = cc

-- what holds of two lists holds of them joined
pub all_join : {X : Type 0} (P : X → Type 0) (xs ys : List X) → AllByRecursion P xs → AllByRecursion P ys → AllByRecursion P (xs ++ ys)
all_join P [] ys hx hy = hy
all_join P (x ∷ xs) ys hx hy = (hx.0, all_join P xs ys hx.1 hy)

-- what holds of bytes holds of the first of them
pub all_take : (n : ℕ) (xs : List ℕ) → AllByRecursion (λ x. x < 256) xs → AllByRecursion (λ x. x < 256) (take n xs)
all_take zero xs h = tt
all_take (suc n) [] h = tt
all_take (suc n) (x ∷ xs) h = (h.0, all_take n xs h.1)

-- and of the rest
pub all_drop : (n : ℕ) (xs : List ℕ) → AllByRecursion (λ x. x < 256) xs → AllByRecursion (λ x. x < 256) (drop n xs)
all_drop zero xs h = h
all_drop (suc n) [] h = tt
all_drop (suc n) (x ∷ xs) h = all_drop n xs h.1

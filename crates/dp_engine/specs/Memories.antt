-- Internal, except `EngineMemoryView` and `IsOneFree`: the memory of an engine, a heap in a region, and what lies in its zones.
use Rattle.std.specs.Prelude.{◌≡◌, ℕ, ◌+◌, ◌≤◌, false, if◌then◌else◌, List, [], ◌∷◌, length, Option, None, Some, IfSome, is_some, replicate}
use Rattle.std.specs.List.{AllByRecursion}
use Rattle.dp_region.specs.Ownership.{Home}
use Rattle.dp_heap.specs.declared.elements.State.TheVariants.{Free}
use Rattle.dp_heap.specs.Laid.{elements_in}
use Rattle.dp_ring.specs.Rings.{RingView}
use Rattle.dp_pool.specs.Pools.{PoolView}
use Rattle.dp_mbuf.specs.declared.limits.TheConstants.{HEADER_SIZE}
use Rattle.dp_model.specs.declared.env.PoolSpec.{PoolSpec}
use Rattle.dp_model.specs.Limits.{max_room}

-- the memory of an engine as contracts see it: its region, the size of that, and the number of zones that are out
pub record EngineMemoryView : Type 0 where
  pub home : Home
  pub size : ℕ
  pub out : ℕ

-- the heap that these bytes of a region hold is one free element
abbrev pub IsOneFree : List ℕ → Type 0
IsOneFree bytes = elements_in bytes ≡ record { offset = 0; size = length bytes; state = Free; pad = 0 } ∷ []

-- n zones of the engine's memory have been given back
pub record Returns (n : ℕ) (old new : EngineMemoryView) : Type 0 where
  pub home : new.home ≡ old.home
  pub size : new.size ≡ old.size
  pub out : new.out + n ≡ old.out

-- the first slots hold, in order, what P says about the first list; the others are empty
abbrev pub Fills : {X V : Type 0} → (X → V → Type 0) → X → Option V → Type 0
Fills P x None = ⊥
Fills P x (Some v) = P x v

abbrev pub AreFilled : {X V : Type 0} → (X → V → Type 0) → List X → List (Option V) → Type 0
AreFilled P [] slots = AllByRecursion (λ o. o ≡ None) slots
AreFilled P (x ∷ xs) [] = ⊥
AreFilled P (x ∷ xs) (o ∷ slots) = Fills P x o × AreFilled P xs slots

-- an empty ring with this many slots, in a zone of the region
pub record IsNewRing (home : Home) (count : ℕ) (r : RingView) : Type 0 where
  pub count_is : r.count ≡ count
  pub empty : r.entries ≡ []
  pub home_is : r.home ≡ home

-- a pool of mbufs with these numbers, all in, in zones of the region
pub record IsNewPool (home : Home) (s : PoolSpec) (p : PoolView) : Type 0 where
  pub size : p.size ≡ s.room + HEADER_SIZE
  pub room : s.room ≤ max_room
  pub count_is : length p.objects ≡ s.count
  pub cache_is : p.cache ≡ s.cache
  pub all_in : p.out ≡ replicate s.count false
  pub home_is : p.zones.home ≡ home

-- the number of filled slots
abbrev pub filled : {V : Type 0} → List (Option V) → ℕ
filled [] = 0
filled (o ∷ slots) = (if is_some o then 1 else 0) + filled slots

-- the rings lie in zones of the region; so do the pools
abbrev pub RingsIn : Home → List (Option RingView) → Type 0
RingsIn home slots = AllByRecursion (λ o. IfSome o (λ r. r.home ≡ home)) slots

abbrev pub PoolsIn : Home → List (Option PoolView) → Type 0
PoolsIn home slots = AllByRecursion (λ o. IfSome o (λ p. p.zones.home ≡ home)) slots

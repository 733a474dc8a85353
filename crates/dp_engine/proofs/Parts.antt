-- The pools and rings of an engine's memory, as an engine takes them over and gives them back.
use Rattle.std.proofs.Common.{◌≡◌, ℕ, List, [], ◌∷◌, length, map, Option, Some, None, refl, sym, ◌∙◌, ap, subst, arith}
use Rattle.std.specs.List.{AllByRecursion}
use Rattle.std.proofs.lemmas.Option.{none-some}
use Rattle.dp_region.specs.Ownership.{Home}
use Rattle.dp_ring.specs.Rings.{RingView}
use Rattle.dp_pool.specs.Pools.{PoolZones, PoolView}
use Rattle.dp_mbuf.specs.Objects.{present, zones_of, HeadersFirst, PoolsFirst}
use Rattle.dp_engine.specs.declared.memory.Parts.{Parts}
use Rattle.dp_engine.specs.Handles.{Frames, without_entries, frames_of}
use Rattle.dp_engine.specs.Queues.{QueuesView, rings_in, RingsFirst}
use Rattle.dp_engine.specs.Memories.{EngineMemoryView, AreFilled, IsNewRing, filled, RingsIn, PoolsIn}
use Rattle.dp_engine.specs.Layouts.{PartsIn, zones_in}
use Rattle.dp_engine.specs.Engines.{StandIn}
use Rattle.dp_engine.proofs.Filled.{none_filled}

-- ---- rings that were laid out

pub rings_first : (home : Home) (counts : List ℕ) (slots : List (Option RingView)) → AreFilled (IsNewRing home) counts slots → RingsFirst slots
rings_first home [] [] are = tt
rings_first home [] (None ∷ slots) are = are.1
rings_first home [] (Some r ∷ slots) are = absurd (none-some r (sym are.0))
rings_first home (n ∷ counts) [] are = absurd are
rings_first home (n ∷ counts) (None ∷ slots) are = absurd are.0
rings_first home (n ∷ counts) (Some r ∷ slots) are = rings_first home counts slots are.1

pub without_entry : (home : Home) (counts : List ℕ) (slots : List (Option RingView)) → AreFilled (IsNewRing home) counts slots
    → AllByRecursion (λ (r : RingView). r.entries ≡ []) (rings_in slots)
without_entry home [] [] are = tt
without_entry home [] (None ∷ slots) are = tt
without_entry home [] (Some r ∷ slots) are = absurd (none-some r (sym are.0))
without_entry home (n ∷ counts) [] are = absurd are
without_entry home (n ∷ counts) (None ∷ slots) are = absurd are.0
without_entry home (n ∷ counts) (Some r ∷ slots) are = (are.0.empty, without_entry home counts slots are.1)

pub counts_in : (home : Home) (counts : List ℕ) (slots : List (Option RingView)) → AreFilled (IsNewRing home) counts slots
    → map (λ (r : RingView). r.count) (map without_entries (rings_in slots)) ≡ counts
counts_in home [] [] are = refl
counts_in home [] (None ∷ slots) are = refl
counts_in home [] (Some r ∷ slots) are = absurd (none-some r (sym are.0))
counts_in home (n ∷ counts) [] are = absurd are
counts_in home (n ∷ counts) (None ∷ slots) are = absurd are.0
counts_in home (n ∷ counts) (Some r ∷ slots) are =
    ap (λ c. c ∷ map (λ (r : RingView). r.count) (map without_entries (rings_in slots))) are.0.count_is
    ∙ ap (λ cs. n ∷ cs) (counts_in home counts slots are.1)

-- ---- where they lie

rings_filled : (slots : List (Option RingView)) → RingsFirst slots → filled slots ≡ length (map without_entries (rings_in slots))
rings_filled [] first = refl
rings_filled (None ∷ slots) first = let none = none_filled slots first in omega arith
rings_filled (Some r ∷ slots) first = let more = rings_filled slots first in omega arith

pools_filled : (slots : List (Option PoolView)) → PoolsFirst slots → filled slots ≡ length (zones_of (present slots))
pools_filled [] first = refl
pools_filled (None ∷ slots) first = let none = none_filled slots first in omega arith
pools_filled (Some p ∷ slots) first = let more = pools_filled slots first.1 in omega arith

new_filled : (slots : List (Option PoolView)) → HeadersFirst slots → filled slots ≡ length (zones_of (present slots))
new_filled [] first = refl
new_filled (None ∷ slots) first = let none = none_filled slots first in omega arith
new_filled (Some p ∷ slots) first = let more = new_filled slots first.1 in omega arith

abbrev AreAt : Home → List RingView → Type 0
AreAt home rings = AllByRecursion (λ (r : RingView). r.home ≡ home) (map without_entries rings)

abbrev PoolsAt : Home → List PoolView → Type 0
PoolsAt home pools = AllByRecursion (λ (z : PoolZones). z.home ≡ home) (zones_of pools)

rings_at : (home : Home) (slots : List (Option RingView)) → RingsIn home slots → AreAt home (rings_in slots)
rings_at home [] all = tt
rings_at home (None ∷ slots) all = tt
rings_at home (Some r ∷ slots) all = (all.0, rings_at home slots all.1)

pools_at : (home : Home) (slots : List (Option PoolView)) → PoolsIn home slots → PoolsAt home (present slots)
pools_at home [] all = tt
pools_at home (None ∷ slots) all = tt
pools_at home (Some p ∷ slots) all = (all.0, pools_at home slots all.1)

no_rings : (home : Home) (slots : List (Option RingView)) → AllByRecursion (λ o. o ≡ None) slots → RingsIn home slots
no_rings home [] all = tt
no_rings home (None ∷ slots) all = (tt, no_rings home slots all.1)
no_rings home (Some r ∷ slots) all = absurd (none-some r (sym all.0))

no_pools : (home : Home) (slots : List (Option PoolView)) → AllByRecursion (λ o. o ≡ None) slots → PoolsIn home slots
no_pools home [] all = tt
no_pools home (None ∷ slots) all = (tt, no_pools home slots all.1)
no_pools home (Some p ∷ slots) all = absurd (none-some p (sym all.0))

rings_stay : (home : Home) (slots : List (Option RingView)) → RingsFirst slots → AreAt home (rings_in slots) → RingsIn home slots
rings_stay home [] first all = tt
rings_stay home (None ∷ slots) first all = (tt, no_rings home slots first)
rings_stay home (Some r ∷ slots) first all = (all.0, rings_stay home slots first all.1)

pools_stay : (home : Home) (slots : List (Option PoolView)) → PoolsFirst slots → PoolsAt home (present slots) → PoolsIn home slots
pools_stay home [] first all = tt
pools_stay home (None ∷ slots) first all = (tt, no_pools home slots first)
pools_stay home (Some p ∷ slots) first all = (all.0, pools_stay home slots first.1 all.1)

-- what is laid out lies in the engine's memory
pub stand_in : (memory : EngineMemoryView) (parts : Parts) → HeadersFirst parts.pools → RingsFirst parts.rings → RingsFirst parts.lists → PartsIn memory.home
    parts
    → zones_in parts ≡ memory.out
    → StandIn memory (frames_of (zones_of (present parts.pools)) (rings_in parts.rings) (rings_in parts.lists))
stand_in memory parts pools rings lists (pools_here, rings_here, lists_here) out = record {
  pools = pools_at memory.home parts.pools pools_here;
  rings = rings_at memory.home parts.rings rings_here;
  outboxes = rings_at memory.home parts.lists lists_here;
  out = omega (arith, out, new_filled parts.pools pools, rings_filled parts.rings rings, rings_filled parts.lists lists);
}

-- and so does what comes back of it
pub stand_back : (memory : EngineMemoryView) (parts : Parts) → PoolsFirst parts.pools → RingsFirst parts.rings → RingsFirst parts.lists
    → StandIn memory (frames_of (zones_of (present parts.pools)) (rings_in parts.rings) (rings_in parts.lists)) → PartsIn memory.home parts ×
    (zones_in parts ≡ memory.out)
stand_back memory parts pools rings lists stand = (
  (
    pools_stay memory.home parts.pools pools stand.pools,
    rings_stay memory.home parts.rings rings stand.rings,
    rings_stay memory.home parts.lists lists stand.outboxes,
  ),
  omega (arith, stand.out, pools_filled parts.pools pools, rings_filled parts.rings rings, rings_filled parts.lists lists),
)

pub parts_back : (memory : EngineMemoryView) (frames : Frames) (zones : List PoolZones) (queues : QueuesView) (parts : Parts) → StandIn memory frames
    → frames_of zones queues.rings queues.outboxes ≡ frames → PoolsFirst parts.pools → zones_of (present parts.pools) ≡ zones
    → (rings_in parts.rings ≡ queues.rings) × RingsFirst parts.rings → (rings_in parts.lists ≡ queues.outboxes) × RingsFirst parts.lists
    → PartsIn memory.home parts × (zones_in parts ≡ memory.out)
parts_back memory frames zones queues parts stand is pools zones_are (rings_are, first) (lists_are, lists) =
    let same : frames_of (zones_of (present parts.pools)) (rings_in parts.rings) (rings_in parts.lists) ≡ frames = rw (zones_are, rings_are, lists_are) is in
    stand_back memory parts pools first lists (subst (StandIn memory) (sym same) stand)

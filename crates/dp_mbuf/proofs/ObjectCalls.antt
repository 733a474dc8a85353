-- The calls on objects: the pool that is in a slot, and the pools after it changes.
use Rattle.std.proofs.Common.{◌≡◌, ℕ, zero, suc, ◌+◌, ◌<◌, ◌≤◌, Bool, true, false, List, [], ◌∷◌, length, Option, Some, None, refl, ap, ◌∙◌}
use Rattle.std.proofs.Common.{arith, get_or, set}
use Rattle.std.specs.Prelude.{slice_get, is_some}
use Rattle.std.proofs.lemmas.List.{length-set, get_or_past, set-set}
use Rattle.std.proofs.lemmas.Option.{slice_get_within}
use Rattle.std.specs.List.{AllByRecursion}
use Rattle.dp_model.specs.Environments.{room_at}
use Rattle.dp_model.specs.Buffers.{Number, overwritten}
use Rattle.dp_model.specs.Laws.Stored.{length_overwritten}
use Rattle.dp_pool.specs.Pools.{PoolView, object_in, with_object, with_written, with_left, got, put_back}
use Rattle.dp_mbuf.specs.Objects.{present, pool_in, header_with, is_out, specs_of, HasObject, HasRooms, PoolsFirst, objects_in_all, ArePoolSlots}
use Rattle.dp_mbuf.specs.Objects.{ArePools, HeaderSet, RoomWritten, Taken, Given, slot_count, no_pool}
use Rattle.dp_mbuf.specs.Mbufs.{mbufs_in_all}
use Rattle.dp_mbuf.proofs.PoolLemmas.{Small}
use Rattle.dp_mbuf.proofs.ObjectLemmas.{are_pools, object_pool, room_is, front_set, room_written, taken, given, here, slot_is, slot_below as listed_below}
use Rattle.dp_mbuf.proofs.ObjectLemmas.{present_set, mbufs_are, first_set}

-- an index that is out is so in the row
pub out_there : (row : List Bool) (i : ℕ) → get_or row i false ≡ true → slice_get row i ≡ Some true
out_there [] i e = cc
out_there (x ∷ row) zero e = rw e
out_there (x ∷ row) (suc i) e = out_there row i e

pub out_pool : (ps : List PoolView) (k i : ℕ) → get_or (pool_in ps k).out i false ≡ true → k < length ps
out_pool [] k i e = cc
out_pool (p ∷ ps) zero i e = omega arith
out_pool (p ∷ ps) (suc k) i e = omega (arith, out_pool ps k i e)

-- a pool that is replaced, and then changed
pub again : (ps : List PoolView) (k : ℕ) (q : PoolView) (f : PoolView → PoolView) → k < length ps → set (set ps k q) k (f (pool_in (set ps k q) k))
    ≡ set ps k (f q)
again ps k q f there = rw (here ps k there q, set-set ps k q (f q))

-- a pool after a change of an object's bytes, which were lent
pub left_is : (p : PoolView) (i : ℕ) (f : List ℕ → List ℕ) (old new : List ℕ) → old ≡ object_in p i → length old ≡ p.size
    → ((ws : List ℕ) → length ws ≡ p.size → with_left i p ws ≡ with_object p i ws) → new ≡ f old → length (f old) ≡ length old
    → with_left i p new ≡ with_object p i (f (object_in p i))
left_is p i f old new value size whole is same =
    rw (is, ← value) (whole (f old) (omega (arith, size, same)))

-- slot j has p, the pool of object n, whose index is i
pub record InSlot (ps : List PoolView) (n : Number) (j i : ℕ) (p : PoolView) : Type 0 where
  pub slot : j ≡ n.pool
  pub index : i ≡ n.index
  pub object : HasObject ps n
  pub is : p ≡ pool_in ps n.pool
  pub below : i < length p.objects
  pub size : p.size ≡ 128 + room_at (specs_of ps) n.pool

pub left_written : (p : PoolView) (i at : ℕ) (bytes old new : List ℕ) → old ≡ object_in p i → length old ≡ p.size
    → ((ws : List ℕ) → length ws ≡ p.size → with_left i p ws ≡ with_object p i ws) → new ≡ overwritten old at bytes → at + length bytes ≤ p.size
    → with_left i p new ≡ with_written p i at bytes
left_written p i at bytes old new value size whole is fits =
    left_is p i (λ o. overwritten o at bytes) old new value size whole is (length_overwritten old bytes at (omega (arith, size, fits)))

module _ (pools : List (Option PoolView)) (ps : List PoolView) (e : present pools ≡ ps) (inv : ArePoolSlots pools) where
  pub are : ArePools ps
  are = rw (← e) (are_pools pools (omega (arith, inv.0)) inv.1)

  -- slot j is that of pool k
  module _ (j k : ℕ) (ej : j ≡ k) (there : k < length ps) where
    pub listed : (j < length pools) × (j < 8)
    listed = let b = listed_below pools ps k e there in (omega (arith, ej, b), omega (arith, ej, b, inv.0))

    pub filled : (d : Option PoolView) → is_some (get_or pools j d) ≡ true
    filled d = rw (ej, slot_is pools ps k d e there) refl

    pub pool_is : (d : Option PoolView) (p : PoolView) → get_or pools j d ≡ Some p → p ≡ pool_in ps k
    pool_is d p is = let s = slot_is pools ps k d e there in cc (is, ej, s)

    -- the pools with another one in the slot
    pub replaced : (R : List PoolView → Type 0) (q q0 : PoolView) → q ≡ q0 → ArePools (set ps k q0) → specs_of (set ps k q0) ≡ specs_of ps
        → R (set ps k q0) → ArePoolSlots (set pools j (Some q)) × R (present (set pools j (Some q)))
    replaced R q q0 eq are' specs r =
        let is : present (set pools k (Some q0)) ≡ set ps k q0 = rw (← e) (present_set pools k q0 (rw e there)) in
        let rooms : HasRooms q0 = rw (here ps k there q0) at (are'.rooms k (omega (arith, there, length-set ps k q0))) in
        rw (ej, eq) (
          (
            rw length-set inv.0,
            first_set pools k q0 inv.1 (rw e there) rooms,
            omega (arith, inv.2, ap objects_in_all is, ap objects_in_all e, ap mbufs_in_all specs, mbufs_are ps, mbufs_are (set ps k q0)),
          ),
          rw is r,
        )

  pub in_slot : (n : Number) (j i : ℕ) (d : Option PoolView) (p : PoolView) → j ≡ n.pool → i ≡ n.index → HasObject ps n → get_or pools j d ≡ Some p
      → InSlot ps n j i p
  in_slot n j i d p ej ei object is =
      let there : n.pool < length ps = object_pool ps n object in
      let same : p ≡ pool_in ps n.pool = pool_is j n.pool ej there d p is in
      let rooms = are.rooms n.pool there in
      record {
        slot = ej;
        index = ei;
        object = object;
        is = same;
        below = rw (same, ei) object;
        size = rw same (omega (arith, room_is ps n.pool, rooms.header));
      }

  -- the pools after the pool of n changes
  pub becomes : (R : List PoolView → Type 0) (n : Number) (j i : ℕ) (p q : PoolView) (f : PoolView → ℕ → PoolView) → InSlot ps n j i p → q ≡ f p i
      → ArePools (set ps n.pool (f (pool_in ps n.pool) n.index)) → specs_of (set ps n.pool (f (pool_in ps n.pool) n.index)) ≡ specs_of ps
      → R (set ps n.pool (f (pool_in ps n.pool) n.index)) → ArePoolSlots (set pools j (Some q)) × R (present (set pools j (Some q)))
  becomes R n j i p q f s left =
      replaced j n.pool s.slot (object_pool ps n s.object) R q (f (pool_in ps n.pool) n.index) (rw (left, s.is, s.index))

  pub front_done : (n : Number) (j i at : ℕ) (bytes : List ℕ) (p q : PoolView) → InSlot ps n j i p → q ≡ with_written p i at bytes → Small bytes
      → at + length bytes ≤ 128 → ArePoolSlots (set pools j (Some q)) × HeaderSet ps n (header_with ps n at bytes) (present (set pools j (Some q)))
  front_done n j i at bytes p q s left small front =
      let h = front_set ps n at bytes are s.object small front in
      becomes (HeaderSet ps n (header_with ps n at bytes)) n j i p q (λ x k. with_written x k at bytes) s left h.are h.specs h

  pub room_done : (n : Number) (j i at : ℕ) (bytes : List ℕ) (p q : PoolView) → InSlot ps n j i p → q ≡ with_written p i (128 + at) bytes → Small bytes
      → at + length bytes ≤ room_at (specs_of ps) n.pool → ArePoolSlots (set pools j (Some q)) × RoomWritten ps n at bytes (present (set pools j (Some q)))
  room_done n j i at bytes p q s left small fits =
      let r = room_written ps n at bytes are s.object small fits in
      becomes (RoomWritten ps n at bytes) n j i p q (λ x k. with_written x k (128 + at) bytes) s left r.are r.specs r

  -- an object that is out
  pub out_object : (n : Number) → is_out ps n ≡ true → HasObject ps n
  out_object n out =
      let p : PoolView = pool_in ps n.pool in
      omega (arith, slice_get_within p.out n.index true (out_there p.out n.index out), (are.rooms n.pool (out_pool ps n.pool n.index out)).pool.out)

  pub in_row : (n : Number) (j i : ℕ) (p : PoolView) → InSlot ps n j i p → is_out ps n ≡ true → slice_get p.out i ≡ Some true
  in_row n j i p s out = rw (s.is, s.index) (out_there (pool_in ps n.pool).out n.index out)

  pub give_done : (n : Number) (j i : ℕ) (p q : PoolView) → InSlot ps n j i p → q ≡ put_back p i → is_out ps n ≡ true
      → ArePoolSlots (set pools j (Some q)) × Given ps n (present (set pools j (Some q)))
  give_done n j i p q s left out =
      let g = given ps n are (object_pool ps n s.object) (out_there (pool_in ps n.pool).out n.index out) in
      becomes (Given ps n) n j i p q put_back s left g.are g.specs g

  -- an object is taken
  pub take_done : (j k : ℕ) → j ≡ k → k < length ps → (i : ℕ) (p q : PoolView) → p ≡ pool_in ps k → slice_get p.out i ≡ Some false → q ≡ got p i
      → ArePoolSlots (set pools j (Some q)) × Taken ps (record { pool = k; index = i }) (present (set pools j (Some q)))
  take_done j k ej there i p q is in_pool left =
      let n : Number = record { pool = k; index = i } in
      let t = taken ps n are there (rw is at in_pool) in
      replaced j k ej there (Taken ps n) q (got (pool_in ps k) i) (rw (left, is)) t.are t.specs t

  -- nothing changes where none is in
  pub take_none : (j k : ℕ) → j ≡ k → k < length ps → (p q : PoolView) → p ≡ pool_in ps k → q ≡ p → present (set pools j (Some q)) ≡ ps
  take_none j k ej there p q is left =
      let s = same ps k in (replaced j k ej there (λ x. x ≡ ps) q (pool_in ps k) (rw (left, is)) (rw s are) (ap specs_of s) s).1
    where
      same : (ps : List PoolView) (k : ℕ) → set ps k (pool_in ps k) ≡ ps
      same [] k = refl
      same (p ∷ ps) zero = refl
      same (p ∷ ps) (suc k) = rw (same ps k)

  pub index_small : (k i : ℕ) (p : PoolView) → k < length ps → p ≡ pool_in ps k → slice_get p.out i ≡ Some false → i < 65536
  index_small k i p there is in_pool =
      let r = are.rooms k there in omega (arith, slice_get_within (pool_in ps k).out i false (rw is at in_pool), r.pool.out, r.pool.count)

-- ---- how many objects there are

no_slot : (pools : List (Option PoolView)) (k : ℕ) (d : Option PoolView) → AllByRecursion (λ o. o ≡ None) pools → k < length pools →
    slot_count (get_or pools k d) ≡ 0
no_slot [] k d all h = absurd (omega arith)
no_slot (o ∷ pools) zero d all h = rw all.0
no_slot (o ∷ pools) (suc k) d all h = no_slot pools k d all.1 (omega arith)

slot_count_is : (pools : List (Option PoolView)) (k : ℕ) (d : Option PoolView) → PoolsFirst pools → k < length pools → slot_count (get_or pools k d)
    ≡ length (pool_in (present pools) k).objects
slot_count_is [] k d first h = absurd (omega arith)
slot_count_is (None ∷ pools) zero d first h = refl
slot_count_is (None ∷ pools) (suc k) d first h = no_slot pools k d first (omega arith)
slot_count_is (Some p ∷ pools) zero d first h = refl
slot_count_is (Some p ∷ pools) (suc k) d first h = slot_count_is pools k d first.1 (omega arith)

pub counted : (pools : List (Option PoolView)) (ps : List PoolView) (k j : ℕ) (d : Option PoolView) → present pools ≡ ps → ArePoolSlots pools → k ≡ j → j < 8 →
    slot_count (get_or pools k d) ≡ length (pool_in ps j).objects
counted pools ps k j d e inv ek h =
    rw (ek, ← e) (slot_count_is pools j d inv.1 (omega (arith, inv.0)))

pub counted_none : (pools : List (Option PoolView)) (ps : List PoolView) (j : ℕ) → present pools ≡ ps → ArePoolSlots pools → 8 ≤ j →
    length (pool_in ps j).objects ≡ 0
counted_none pools ps j e inv h =
    rw (get_or_past ps j no_pool (omega (arith, (are pools ps e inv).few)))

-- What the calls of tests on packets keep.
use Rattle.std.proofs.Common.{◌≡◌, ℕ, zero, suc, ◌+◌, ◌<◌, ◌≤◌, false, List, [], ◌∷◌, length, Option, Some, None, refl, sym, ◌∙◌, ap, subst, arith, get_or}
use Rattle.std.specs.Prelude.{slice_get}
use Rattle.std.specs.List.{AllByRecursion}
use Rattle.dp_model.specs.Environments.{room_at}
use Rattle.dp_model.specs.Buffers.{Number, Buffers, ChangesOnly}
use Rattle.dp_model.specs.Packets.{Segment, Packet, refs, IsTailSole, allocated, needed, received, Filled, cloned}
use Rattle.dp_model.specs.Stores.{Store, IsLive, with_slot, Gives, Allocates, ReceivesInto, Clones, Chains}
use Rattle.dp_model.specs.Laws.Lists.{get_replicate}
use Rattle.dp_region.specs.Ownership.{Home}
use Rattle.dp_pool.specs.Pools.{PoolView}
use Rattle.dp_mbuf.specs.Objects.{pool_in, present, zones_of, PoolsFirst}
use Rattle.dp_mbuf.specs.Mbufs.{MbufsView, AreReady, IsNew}
use Rattle.layers_tests.specs.Rows.{IsOver, StaysOver, AreIn, SlotIn, IsReadyPool}

pub over_kept : (s s' : Store) → s'.pools ≡ s.pools → IsOver s → IsOver s'
over_kept s s' e o = record {
  three = ap length e ∙ o.three;
  rooms = λ k b. let l = ap (λ p. room_at p k) e in let q = o.rooms k b in omega (arith, l, q);
}

pub stays_over : (m m' : MbufsView) → m'.store.pools ≡ m.store.pools → m'.zones ≡ m.zones → IsOver m.store → StaysOver m m'
stays_over m m' pools zones o = record { over = over_kept m.store m'.store pools o; zones = zones }

pub gives_kept : (s s' : Store) (pool need : ℕ) (packet : List Number → Packet) (Changes : List Number → Buffers → Buffers → Type 0) (r : Option ℕ) →
    Gives s pool need packet Changes s' r → s'.pools ≡ s.pools
gives_kept s s' pool need packet Changes None g = ap (λ x. x.pools) g.1
gives_kept s s' pool need packet Changes (Some h) g = ap (λ x. x.pools) g.6

-- ---- the last segment

pub tail_sole : (live : List Segment) (k : Packet) (last r : ℕ) → length k ≡ suc last → ((s : Segment) → slice_get k last ≡ Some s → r ≡ refs live s.buffer) →
    r ≡ 1 → IsTailSole live k
tail_sole live [] last r e f one = absurd (omega (arith, e))
tail_sole live (s ∷ []) zero r e f one = sym (f s refl) ∙ one
tail_sole live (s ∷ []) (suc last) r e f one = absurd (omega (arith, e))
tail_sole live (s ∷ t ∷ k) zero r e f one = absurd (omega (arith, e))
tail_sole live (s ∷ t ∷ k) (suc last) r e f one = tail_sole live (t ∷ k) last r (omega (arith, e)) f one

-- ---- three pools

abbrev pub three_of : PoolView → PoolView → PoolView → List (Option PoolView)
three_of a b c = Some a ∷ Some b ∷ Some c ∷ None ∷ None ∷ None ∷ None ∷ None ∷ []

pub ready_three : (a b c : PoolView) (m n o x y z : ℕ) (ha hb hc : Home) → IsReadyPool m x ha a → IsReadyPool n y hb b → IsReadyPool o z hc c →
    m + n + o ≤ 65535 → AreReady (three_of a b c)
ready_three a b c m n o x y z ha hb hc ra rb rc few = record {
  first = (
    let s = ra.size in omega (arith, s),
    (
      let s = rb.size in omega (arith, s),
      (
        let s = rc.size in
            omega (arith, s),
        (refl, (refl, (refl, (refl, tt)))),
      ),
    ),
  );
  some = omega arith;
  few = omega arith;
  mbufs = let d = ra.count in let e = rb.count in let f = rc.count in omega (arith, d, e, f, few);
  all_in = λ q. at q.pool q.index;
}
  where
    at : (k i : ℕ) → get_or (pool_in (a ∷ b ∷ c ∷ []) k).out i false ≡ false
    at zero i = ap (λ o. get_or o i false) ra.all_in ∙ get_replicate m i false
    at (suc zero) i = ap (λ o. get_or o i false) rb.all_in ∙ get_replicate n i false
    at (suc (suc zero)) i = ap (λ out. get_or out i false) rc.all_in ∙ get_replicate o i false
    at (suc (suc (suc k))) i = refl

pub new_over : (a b c : PoolView) (v : MbufsView) (m n x y : ℕ) (ha hb : Home) → IsReadyPool m x ha a → IsReadyPool n y hb b → 129 ≤ x → 129 ≤ y →
    IsNew (three_of a b c) v → IsOver v.store
new_over a b c v m n x y ha hb ra rb lx ly new = record {
  three = ap length new.pools_are;
  rooms = room;
}
  where
    room : (k : ℕ) → k < 2 → 129 ≤ room_at v.store.pools k
    room zero h = let r = ap (λ p. room_at p 0) new.pools_are in let s = ra.size in omega (arith, r, s, lx)
    room (suc zero) h = let r = ap (λ p. room_at p 1) new.pools_are in let s = rb.size in omega (arith, r, s, ly)
    room (suc (suc k)) h = absurd (omega (arith, h))

pub new_in : (a b c : PoolView) (v : MbufsView) (m n o x y z : ℕ) (ha hb hc home : Home) → IsReadyPool m x ha a → IsReadyPool n y hb b →
    IsReadyPool o z hc c → ha ≡ home → hb ≡ home → hc ≡ home → IsNew (three_of a b c) v → AreIn home v.zones
new_in a b c v m n o x y z ha hb hc home ra rb rc ea eb ec new = subst (AreIn home) (sym new.zones) (ra.home ∙ ea, (rb.home ∙ eb, (rc.home ∙ ec, tt)))

none_in : (home : Home) (slots : List (Option PoolView)) → AllByRecursion (λ o. o ≡ None) slots → AllByRecursion (SlotIn home) slots
none_in home [] all = tt
none_in home (s ∷ slots) all = (subst (SlotIn home) (sym all.0) tt, none_in home slots all.1)

-- pools that are back are in the region of their zones
pub slots_in : (home : Home) (slots : List (Option PoolView)) → PoolsFirst slots → AreIn home (zones_of (present slots)) →
    AllByRecursion (SlotIn home) slots
slots_in home [] first all = tt
slots_in home (None ∷ slots) first all = (tt, none_in home slots first)
slots_in home (Some p ∷ slots) first all = (all.0, slots_in home slots first.1 all.1)

-- ---- the pools stay

pub alloc_kept : (s s' : Store) (pool : ℕ) (r : Option ℕ) → Allocates s pool s' r → s'.pools ≡ s.pools
alloc_kept s s' pool r g = gives_kept s s' pool 1 (allocated s.pools) ChangesOnly r g

pub receive_kept : (s s' : Store) (pool : ℕ) (bytes : List ℕ) (r : Option ℕ) → ReceivesInto s pool bytes s' r → s'.pools ≡ s.pools
receive_kept s s' pool bytes r g =
    gives_kept s s' pool (needed s.pools pool (length bytes)) (λ ns. received (room_at s.pools pool) ns (length bytes))
    (λ ns old new. Filled ns (received (room_at s.pools pool) ns (length bytes)) bytes old new) r g

pub clone_kept : (s s' : Store) (h pool : ℕ) (r : Option ℕ) → IsLive s h → Clones s h pool s' r → s'.pools ≡ s.pools
clone_kept s s' h pool r live c =
    gives_kept s s' pool (length live.0) (λ ns. cloned ns live.0) (λ ns old new. new ≡ old) r (c live.0 live.1)

pub free_kept : (s s' : Store) (h : ℕ) → s' ≡ with_slot h None s → s'.pools ≡ s.pools
free_kept s s' h e = ap (λ x. x.pools) e

pub chain_kept : (s s' : Store) (h t : ℕ) → IsLive s h → IsLive s t → Chains s h t s' → s'.pools ≡ s.pools
chain_kept s s' h t live more c = ap (λ x. x.pools) (c live.0 live.1 more.0 more.1)

-- ---- an allocated packet is live

pub live_kept : (s s' : Store) (h h' : ℕ) → s' ≡ s → h' ≡ h → IsLive s h → IsLive s' h'
live_kept s s' h h' same e live = subst (λ t. IsLive t h') (sym same) (subst (IsLive s) (sym e) live)

-- Packets that come and go, and rounds that leave everything as it was.
use Rattle.std.proofs.Common.{◌≡◌, ℕ, zero, suc, ◌+◌, ◌-◌, ◌/◌, ◌<◌, ◌≤◌, false, List, [], ◌∷◌, length, Option, Some, None, refl, sym, ◌∙◌, ap, ap₂}
use Rattle.std.proofs.Common.{subst, arith, get_or}
use Rattle.std.specs.Prelude.{max, replicate, slice_get, slice_set}
use Rattle.std.specs.List.{AllByRecursion}
use Rattle.std.proofs.lemmas.Option.{same_Some}
use Rattle.dp_model.specs.Buffers.{Number, Buffers, ChangesOnly}
use Rattle.dp_model.specs.Packets.{Packet, headroom, first_len, at_front, more_before, less_before, zeroed_before, IsHeadSole, allocated}
use Rattle.dp_model.specs.Packets.{cloned, needed, received, Filled}
use Rattle.dp_model.specs.Environments.{room_at}
use Rattle.dp_model.specs.Machine.{segments_held}
use Rattle.dp_model.specs.Stores.{Store, Has, HasSome, IsLive, Becomes, unwritten, with_slot, Gives, Allocates, Clones, ReceivesInto}
use Rattle.dp_model.specs.Laws.Lists.{get_replicate, get_set_same}
use Rattle.dp_model.specs.Laws.Stores.{given_live}
use Rattle.dp_region.specs.Ownership.{Home}
use Rattle.dp_pool.specs.Pools.{PoolView, PoolZones}
use Rattle.dp_mbuf.specs.Objects.{present, PoolsFirst, pool_in, zones_of}
use Rattle.dp_mbuf.specs.Mbufs.{MbufsView, AreReady, IsNew}
use Rattle.dp_bench.specs.Mbufs.{HasFront, HasRoom, IsReadyPool, IsOnePool}

-- ---- a slot that is filled and emptied

put_back : (xs : List (Option Packet)) (h : ℕ) (o x : Option Packet) → slice_get xs h ≡ Some o → slice_set (slice_set xs h x) h o ≡ xs
put_back [] h o x is = refl
put_back (y ∷ xs) zero o x is = ap (λ z. z ∷ xs) (sym (same_Some y o is))
put_back (y ∷ xs) (suc h) o x is = ap (λ l. y ∷ l) (put_back xs h o x is)

-- once what was allocated is freed, the packets are as before
module _ (s s' : Store) (pool need h : ℕ) (packet : List Number → Packet) (Changes : List Number → Buffers → Buffers →
    Type 0) (g : Gives s pool need packet Changes s' (Some h)) where
  given_back : (s'' : Store) → s'' ≡ with_slot h None s' → (s''.slots ≡ s.slots) × (s''.pools ≡ s.pools)
  given_back s'' e =
      let (_, free, numbers, _, _, _, given) = g in (
        ap (λ (x : Store). x.slots) e ∙ (ap (λ (x : Store). slice_set x.slots h None) given ∙ put_back s.slots h None (Some (packet numbers)) free),
        ap (λ (x : Store). x.pools) e ∙ ap (λ (x : Store). x.pools) given,
      )

pub alloc_back : (s s' : Store) (pool h : ℕ) → Allocates s pool s' (Some h) → (s'' : Store) → s'' ≡ with_slot h None s' →
    (s''.slots ≡ s.slots) × (s''.pools ≡ s.pools)
alloc_back s s' pool h g = given_back s s' pool 1 h (allocated s.pools) ChangesOnly g

pub alloc_none : (s s' : Store) (pool : ℕ) → Allocates s pool s' None → s' ≡ s
alloc_none s s' pool g = g.1

pub alloc_pools : (s s' : Store) (pool h : ℕ) → Allocates s pool s' (Some h) → s'.pools ≡ s.pools
alloc_pools s s' pool h (_, _, _, _, _, _, given) = ap (λ (x : Store). x.pools) given

module _ (s s' : Store) (q pool : ℕ) (live : IsLive s q) where
  pub clone_live : (h : ℕ) → Clones s q pool s' (Some h) → IsLive s' h
  clone_live h c = given_live s s' pool (length live.0) h (λ ns. cloned ns live.0) (λ ns old new. new ≡ old) (c live.0 live.1)

  pub clone_back : (h : ℕ) → Clones s q pool s' (Some h) → (s'' : Store) → s'' ≡ with_slot h None s' → (s''.slots ≡ s.slots) × (s''.pools ≡ s.pools)
  clone_back h c = given_back s s' pool (length live.0) h (λ ns. cloned ns live.0) (λ ns old new. new ≡ old) (c live.0 live.1)

module _ (s s' : Store) (pool h : ℕ) (bytes : List ℕ) (g : ReceivesInto s pool bytes s' (Some h)) where
  abbrev packet : List Number → Packet
  packet ns = received (room_at s.pools pool) ns (length bytes)

  pub receive_live : IsLive s' h
  receive_live = given_live s s' pool (needed s.pools pool (length bytes)) h packet (λ ns old new. Filled ns (packet ns) bytes old new) g

  pub receive_back : (s'' : Store) → s'' ≡ with_slot h None s' → (s''.slots ≡ s.slots) × (s''.pools ≡ s.pools)
  receive_back = given_back s s' pool (needed s.pools pool (length bytes)) h packet (λ ns old new. Filled ns (packet ns) bytes old new) g

-- a packet of 60 bytes needs one buffer
pub needs_one : (s : Store) → HasRoom s → needed s.pools 0 60 ≡ 1
needs_one s room = ap (λ r. max 1 ((60 + (r - 128 - 1)) / (r - 128))) room

-- ---- prepending bytes

longer : (k : Packet) (n : ℕ) → 0 < n → n ≤ headroom k → n ≤ first_len (at_front (more_before n) k)
longer [] n some le = absurd (omega (arith, some, le))
longer (s ∷ k) n some le = omega arith

as_before : (k : Packet) (n : ℕ) → n ≤ headroom k → at_front (less_before n) (at_front (more_before n) k) ≡ k
as_before [] n le = refl
as_before (s ∷ k) n le =
    let offset : s.offset - n + n ≡ s.offset = omega (arith, le) in
    let len : s.len + n - n ≡ s.len = omega arith in
    ap₂ (λ (o l : ℕ). record s { offset = o; len = l } ∷ k) offset len

module _ (s s' : Store) (h n : ℕ) (some : 0 < n) (f : HasFront s h n) (b : Becomes s s' h (at_front (more_before n)) (zeroed_before n)) where
  abbrev grown : Packet
  grown = at_front (more_before n) f.0

  has_grown : Has s' h grown
  has_grown = ap (λ (x : Store). slice_get x.slots h) (b f.0 f.1) ∙ get_set_same s.slots h (Some grown) (Some f.0) f.1

  pub front_long : HasSome s' h (λ k. n ≤ first_len k)
  front_long = let (k, has, (room, sole)) = f in (grown, has_grown, longer k n some room)

  pub front_back : (s'' : Store) → Becomes s' s'' h (at_front (less_before n)) unwritten → (s''.slots ≡ s.slots) × (s''.pools ≡ s.pools)
  front_back s'' c =
      let (k, has, (room, sole)) = f in
      let cut = c grown has_grown in
      let first = b k has in (
        ap (λ (x : Store). x.slots) cut
            ∙ (ap (λ (k : Packet). slice_set s'.slots h (Some k)) (as_before k n room)
            ∙ (ap (λ (x : Store). slice_set x.slots h (Some k)) first
            ∙ put_back s.slots h (Some k) (Some grown) has)),
        ap (λ (x : Store). x.pools) cut ∙ ap (λ (x : Store). x.pools) first,
      )

-- ---- what depends on packets alone

pub live_kept : (s s' : Store) (h : ℕ) → s'.slots ≡ s.slots → IsLive s h → IsLive s' h
live_kept s s' h e live = (live.0, ap (λ l. slice_get l h) e ∙ live.1, tt)

pub front_kept : (s s' : Store) (h n : ℕ) → s'.slots ≡ s.slots → HasFront s h n → HasFront s' h n
front_kept s s' h n e (k, has, (room, sole)) = (k, ap (λ l. slice_get l h) e ∙ has, (room, subst (λ l. IsHeadSole (segments_held l) k) (sym e) sole))

pub room_kept : (s s' : Store) → s'.pools ≡ s.pools → HasRoom s → HasRoom s'
room_kept s s' e room = ap (λ ps. room_at ps 0) e ∙ room

pub some_kept : (s s' : Store) → s'.pools ≡ s.pools → 0 < length s.pools → 0 < length s'.pools
some_kept s s' e some = let l = ap length e in omega (arith, l, some)

-- ---- one pool

abbrev pub one_of : PoolView → List (Option PoolView)
one_of p = Some p ∷ None ∷ None ∷ None ∷ None ∷ None ∷ None ∷ None ∷ []

pub ready_one : (home : Home) (p : PoolView) → IsReadyPool home p → AreReady (one_of p)
ready_one home p r = record {
  first = (let s = r.size in omega (arith, s), (refl, (refl, (refl, (refl, (refl, (refl, tt)))))));
  some = omega arith;
  few = omega arith;
  mbufs = let c = r.count in omega (arith, c);
  all_in = λ q. at q.pool q.index;
}
  where
    at : (k i : ℕ) → get_or (pool_in (p ∷ []) k).out i false ≡ false
    at zero i = ap (λ o. get_or o i false) r.all_in ∙ get_replicate 400 i false
    at (suc k) i = refl

pub new_room : (p : PoolView) (v : MbufsView) → IsNew (one_of p) v → p.size ≡ 2304 → HasRoom v.store
new_room p v new size = ap (λ ps. room_at ps 0) new.pools_are ∙ ap (λ n. n - 128) size

-- the only pool that comes back is in the first slot

all_none : (xs : List (Option PoolView)) → AllByRecursion (λ o. o ≡ None) xs → xs ≡ replicate (length xs) None
all_none [] all = refl
all_none (x ∷ xs) all = ap₂ (λ (y : Option PoolView) (ys : List (Option PoolView)). y ∷ ys) all.0 (all_none xs all.1)

no_more : (xs : List (Option PoolView)) → PoolsFirst xs → length (zones_of (present xs)) ≡ 0 → xs ≡ replicate (length xs) None
no_more [] first none = refl
no_more (None ∷ xs) first none = ap (λ (l : List (Option PoolView)). None ∷ l) (all_none xs first)
no_more (Some p ∷ xs) first none = absurd (omega (arith, none))

pub back_one : (region : Home) (p : PoolView) (xs : List (Option PoolView)) → length xs ≡ 8 → PoolsFirst xs → zones_of (present xs) ≡ p.zones ∷ [] →
    p.zones.home ≡ region → IsOnePool region xs
back_one region p [] long first zones home = absurd (omega (arith, long))
back_one region p (None ∷ xs) long first zones home = let l = ap length zones in absurd (omega (arith, l))
back_one region p (Some q ∷ xs) long first zones home =
    let l = ap length zones in
    let same = ap (λ z. head_of z) zones in
    let rest = no_more xs first.1 (omega (arith, l)) in
    let seven : length xs ≡ 7 = omega (arith, long) in
    (q, ap (λ (z : PoolZones). z.home) same ∙ home, ap (λ (ys : List (Option PoolView)). Some q ∷ ys) (rest ∙ ap (λ n. replicate n None) seven))
  where
    head_of : List PoolZones → PoolZones
    head_of [] = p.zones
    head_of (z ∷ zs) = z

-- a packet that was allocated is freed when the others are as before
pub returned : (s s1 s2 s3 : Store) (pool h : ℕ) → Allocates s pool s1 (Some h) → s2.slots ≡ s1.slots → s2.pools ≡ s1.pools → s3 ≡ with_slot h None s2 →
    (s3.slots ≡ s.slots) × (s3.pools ≡ s.pools)
returned s s1 s2 s3 pool h g slots pools e =
    let back = alloc_back s s1 pool h g (with_slot h None s1) refl in
    (ap (λ (x : Store). x.slots) e ∙ (ap (λ l. slice_set l h None) slots ∙ back.0), ap (λ (x : Store). x.pools) e ∙ (pools ∙ back.1))

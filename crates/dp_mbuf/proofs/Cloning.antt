-- `clone_of`, segment by segment.
use Rattle.std.proofs.Common.{◌≡◌, ℕ, zero, suc, ◌+◌, ◌*◌, ◌^◌, ◌<◌, ◌≤◌, Bool, true, false, List, [], ◌∷◌, ◌++◌, length, drop, Option, Some, None, refl, sym}
use Rattle.std.proofs.Common.{◌∙◌, ap, subst, arith, inr, ⊎_elim, get_or, set}
use Rattle.std.specs.Prelude.{count_by, slice_set}
use Rattle.std.specs.List.{AllByRecursion}
use Rattle.std.proofs.lemmas.List.{length-append}
use Rattle.std.proofs.lemmas.Option.{slice_get-get_or, get_or_from_slice_get}
use Rattle.dp_model.specs.Buffers.{Number, same_number, IsNumber, AreDistinct}
use Rattle.dp_model.specs.Packets.{Segment, Packet, refs, Lies, cloned, is_free, available, IsFresh}
use Rattle.dp_model.specs.Machine.{segments_held}
use Rattle.dp_model.specs.Stores.{Store, Has, segments_of, Gives}
use Rattle.dp_model.specs.Laws.References.{refs-append, refs-cons}
use Rattle.dp_pool.specs.Pools.{PoolView}
use Rattle.dp_mbuf.specs.Objects.{header_at, count_in, specs_of, buffers_of, HasObject, HeaderSet}
use Rattle.dp_mbuf.specs.Steps.{Linkage, Alike, CanClone, Cloned, cloned_header}
use Rattle.dp_mbuf.specs.Mbufs.{handle, numbered, segment_at, shown, mbufs, Linked, last_mbuf, StandsAt, Whole, Sound}
use Rattle.dp_mbuf.proofs.ObjectLemmas.{same_or, length_specs}
use Rattle.dp_mbuf.proofs.Counting.{count-append, count-cons, mbufs-append, mbufs-cons, mbufs_first, refs_first, refs_le}
use Rattle.dp_mbuf.proofs.Counting.{each_count, all_slot, slot_among}
use Rattle.dp_mbuf.proofs.Links.{alike, first_in, first_mbuf, linked_kept}
use Rattle.dp_mbuf.proofs.Frames.{object_of, number_of, number_small, positive, counted_same}
use Rattle.dp_mbuf.proofs.Edits.{all_at, first_set}
use Rattle.dp_mbuf.proofs.InHand.{grown, nothing_at, zero_at, turned}
use Rattle.dp_mbuf.proofs.Taking.{free_from}
use Rattle.dp_mbuf.proofs.Chaining.{joined, last_of_links}
use Rattle.dp_mbuf.proofs.Live.{opened, settled, store_eq, last_mbuf_is}
use Rattle.dp_mbuf.proofs.Allocs.{free_in, pool_there}
use Rattle.dp_model.specs.Laws.Lists.{all_join, all_left, all_right}

-- ---- the segments in hand in another order

pub reordered : (ps : List PoolView) (s : Segment) (hand : Packet) (slots : List (Option Packet)) → Whole ps (s ∷ hand) slots → Whole ps (hand ++ s ∷ []) slots
reordered ps s hand slots w = record {
  are = w.are;
  counted = counted_same ps ps (s ∷ hand ++ segments_held slots) ((hand ++ s ∷ []) ++ segments_held slots) w.counted
      (each_count _ _ (λ f. omega (
        arith,
        count-cons f s (hand ++ segments_held slots),
        count-append f hand (segments_held slots),
        count-append f (hand ++ s ∷ []) (segments_held slots),
        count-append f hand (s ∷ []),
        count-cons f s [],
      )))
      refl (λ _. refl) (λ _ _. refl)
      (all_last (λ t. IsNumber (specs_of ps) t.mbuf) w.counted.numbers)
      (all_last (Lies (specs_of ps)) w.counted.lie);
  shows = w.shows;
}
  where
    all_last : (P : Segment → Type 0) → AllByRecursion P (s ∷ hand ++ segments_held slots) → AllByRecursion P ((hand ++ s ∷ []) ++ segments_held slots)
    all_last P a =
        all_join P (hand ++ s ∷ []) (segments_held slots)
        (all_join P hand (s ∷ []) (all_left P hand (segments_held slots) a.1) (a.0, tt))
        (all_right P hand (segments_held slots) a.1)

-- ---- references stay below their limit

abbrev few_of : Option Packet → Type 0
few_of None = Unit {0}
few_of (Some k) = length k ≤ 64

held_few : (n : ℕ) (slots : List (Option Packet)) → ((h : ℕ) → few_of (get_or slots h None)) → length (segments_held slots) ≤ 64 * length slots
held_few n [] e = omega arith
held_few n (None ∷ slots) e = omega (arith, held_few n slots (λ h. e (suc h)))
held_few n (Some k ∷ slots) e =
    let f : length k ≤ 64 = e 0 in omega (arith, held_few n slots (λ h. e (suc h)), length-append k (segments_held slots))

pub refs_few : (ps : List PoolView) (hand : Packet) (slots : List (Option Packet)) (b : Number) → Whole ps hand slots → length hand ≤ 64 →
    1 ≤ refs (hand ++ segments_held slots) b → (header_at ps b).refs + 1 < 2 ^ 32
refs_few ps hand slots b w few some =
    let f = held_few 0 slots (λ h. each (numbered h) (get_or slots h None) (w.shows.each h)) in
    omega (arith, w.counted.stored b some, refs_le (hand ++ segments_held slots) b, length-append hand (segments_held slots))
  where
    each : (n : Number) (o : Option Packet) → StandsAt ps n o → few_of o
    each n None s = tt
    each n (Some k) s = s.few

-- ---- one segment cloned

abbrev pub clone_at : Number → Segment → Segment
clone_at n s = record { mbuf = n; buffer = s.buffer; offset = s.offset; len = s.len }

pub record Grown (ps ps' : List PoolView) (hand : Packet) (slots : List (Option Packet)) (n : Number) (s : Segment) : Type 0 where
  pub whole : Whole ps' (clone_at n s ∷ hand) slots
  pub segment : segment_at (header_at ps') n ≡ clone_at n s
  pub others : (m : Number) → same_number n m ≡ false → Linkage (header_at ps' m) (header_at ps m)
  pub nothing : mbufs (hand ++ segments_held slots) n ≡ 0
  pub specs : specs_of ps' ≡ specs_of ps
  pub buffers : buffers_of ps' ≡ buffers_of ps
  pub ins : count_in ps' n.pool + 1 ≡ count_in ps n.pool
  pub number : IsNumber (specs_of ps) n
  pub free : is_free (segments_held slots) n ≡ true

module _ (ps ps' : List PoolView) (hand : Packet) (slots : List (Option Packet)) (from n : Number) (s : Segment) (w : Whole ps hand slots)
    (c : Cloned ps from n ps') (is : segment_at (header_at ps) from ≡ s) (some : 1 ≤ refs (hand ++ segments_held slots) s.buffer)
    (lies : Lies (specs_of ps) s) where
  abbrev ss : List Segment
  ss = hand ++ segments_held slots

  abbrev buf : Number
  buf = s.buffer

  number : IsNumber (specs_of ps) n
  number = number_of ps n c.taken.object

  no : mbufs ss n + refs ss n ≡ 0
  no = nothing_at ps hand slots n w number c.taken.was

  -- the new mbuf is not the buffer
  apart : same_number n buf ≡ false
  apart = ⊎_elim
      (λ e. absurd (omega (arith, no, ap (refs ss) e)))
      (λ d. d)
      (same_or n buf)

  eb : (header_at ps from).buffer ≡ buf
  eb = ap (λ t. t.buffer) is

  -- the new mbuf's header is written first, the buffer's last
  last : HeaderSet c.second buf (record (header_at c.second buf) { refs = (header_at c.second buf).refs + 1 }) ps'
  last = rw eb at c.buffer

  middle : (m : Number) → same_number n m ≡ false → header_at c.second m ≡ header_at ps m
  middle m d = rw (c.header.others m d) (c.taken.headers m)

  at_n : header_at ps' n ≡ cloned_header (header_at ps from) n
  at_n = rw (last.others n (turned n buf apart)) c.header.here

  similar : (m : Number) → same_number n m ≡ false → Alike (header_at ps' m) (header_at ps m)
  similar m d = ⊎_elim
      (λ e. rw (← e, last.here, middle buf apart)
      (record { segs = refl; last = refl; link = record { offset = refl; len = refl; next = refl; buffer = refl } }))
      (λ o. alike (header_at ps' m) (header_at ps m) (rw (last.others m o) (middle m d)))
      (same_or buf m)

  -- each buffer's header has its references, the cloned one's too
  refs_now : (m : Number) → 1 ≤ refs (clone_at n s ∷ ss) m → (header_at ps' m).refs ≡ refs (clone_at n s ∷ ss) m
  refs_now m q = ⊎_elim
      (λ e. subst (λ j. (header_at ps' j).refs ≡ refs (clone_at n s ∷ ss) j) e
      (rw (last.here, middle buf apart) (omega (arith, w.counted.stored buf some, refs_first (clone_at n s) ss))))
      (λ o. let z = zero_at buf m o in
      ⊎_elim
      (λ e. absurd (omega (arith, ap (refs ss) e, no, refs-cons (clone_at n s) ss m)))
      (λ d. rw (last.others m o, middle m d) (omega (arith, w.counted.stored m (omega (arith, refs-cons (clone_at n s) ss m)), refs-cons (clone_at n s) ss m)))
      (same_or n m))
      (same_or buf m)

  pub grown_clone : Grown ps ps' hand slots n s
  grown_clone =
      let t = c.taken in
      record {
        whole = grown ps ps' hand slots (clone_at n s) w
            (record {
              are = last.are;
              specs = rw (last.specs, c.header.specs) t.specs;
              number = number;
              was = t.was;
              here = rw (last.outs n, c.header.outs n) t.here;
              no_head = rw at_n;
              outs = λ m d. rw (last.outs m, c.header.outs m) (t.others m d);
              headers = similar;
            })
            (record { fits = lies.fits; number = lies.number })
            refs_now
            (inr (apart, some));
        segment = rw at_n (ap (clone_at n) is);
        others = λ m d. (similar m d).link;
        nothing = omega (arith, no);
        specs = rw (last.specs, c.header.specs) t.specs;
        buffers = rw (last.buffers, c.header.buffers) t.buffers;
        ins = omega (arith, last.ins n.pool, c.header.ins n.pool, t.ins);
        number = number;
        free = free_from (segments_held slots) n (omega (arith, no, mbufs-append hand (segments_held slots) n, refs-append hand (segments_held slots) n));
      }

-- ---- the clone so far

pub cloned_push : (numbers : List Number) (p : Packet) (n : Number) (s : Segment) (rest : Packet) → drop (length numbers) p ≡ s ∷ rest →
    cloned (numbers ++ n ∷ []) p ≡ cloned numbers p ++ clone_at n s ∷ []
cloned_push [] [] n s rest e = cc
cloned_push [] (t ∷ p) n s rest e = let h : t ≡ s = cc in rw h
cloned_push (m ∷ numbers) [] n s rest e = cc
cloned_push (m ∷ numbers) (t ∷ p) n s rest e = rw (cloned_push numbers p n s rest e)

pub length_cloned : (numbers : List Number) (p : Packet) → length numbers ≤ length p → length (cloned numbers p) ≡ length numbers
length_cloned [] p h = refl
length_cloned (m ∷ numbers) [] h = absurd (omega arith)
length_cloned (m ∷ numbers) (t ∷ p) h = omega (arith, length_cloned numbers p (omega arith))

apart_all : (n : Number) (numbers : List Number) (p : Packet) → length numbers ≤ length p → mbufs (cloned numbers p) n ≡ 0 →
    AllByRecursion (λ m. same_number n m ≡ false) numbers
apart_all n [] p h z = tt
apart_all n (m ∷ numbers) [] h z = absurd (omega arith)
apart_all n (m ∷ numbers) (t ∷ p) h z = (
  ⊎_elim
      (λ e. absurd (omega (arith, ap (mbufs (cloned (m ∷ numbers) (t ∷ p))) e, mbufs_first (clone_at m t) (cloned numbers p))))
      (λ d. d)
      (same_or n m),
  apart_all n numbers p (omega arith) (omega (arith, z, mbufs-cons (clone_at m t) (cloned numbers p) n)),
)

distinct : (numbers : List Number) (p : Packet) → length numbers ≤ length p → ((m : Number) → mbufs (cloned numbers p) m ≤ 1) → AreDistinct numbers
distinct [] p h once = tt
distinct (n ∷ numbers) [] h once = absurd (omega arith)
distinct (n ∷ numbers) (t ∷ p) h once = (
  apart_all n numbers p (omega arith) (omega (arith, once n, mbufs_first (clone_at n t) (cloned numbers p))),
  distinct numbers p (omega arith) (λ m. omega (arith, once m, mbufs-cons (clone_at n t) (cloned numbers p) m)),
)

pub all_drop : (P : Segment → Type 0) (i : ℕ) (p : Packet) → AllByRecursion P p → AllByRecursion P (drop i p)
all_drop P zero p a = a
all_drop P (suc i) [] a = tt
all_drop P (suc i) (s ∷ p) a = all_drop P i p a.1

pub count_drop : (f : Segment → Bool) (i : ℕ) (p : Packet) → count_by f (drop i p) ≤ count_by f p
count_drop f zero p = omega arith
count_drop f (suc i) [] = omega arith
count_drop f (suc i) (s ∷ p) = omega (arith, count_drop f i p, count-cons f s p)

pub drop_some : (i : ℕ) (p : Packet) → i < length p → (s : Segment) × (rest : Packet) × (drop i p ≡ s ∷ rest) × (drop (i + 1) p ≡ rest)
drop_some i [] h = absurd (omega arith)
drop_some zero (s ∷ p) h = (s, p, refl, refl)
drop_some (suc i) (s ∷ p) h =
    let (seg, rest, is, next) = drop_some i p (omega arith) in
    let e : suc i + 1 ≡ suc (i + 1) = omega arith in (seg, rest, is, rw e next)

pub record Cloning (ps : List PoolView) (v : Store) (h : ℕ) (p : Packet) (pool : ℕ) (first last from : Number) (i : ℕ) : Type 0 where
  pub numbers : List Number
  pub count : length numbers ≡ i
  pub some : 1 ≤ i
  pub below : i ≤ length p
  pub few : length p ≤ 64
  pub whole : Whole ps (cloned numbers p) v.slots
  pub links : Linked (header_at ps) first (cloned numbers p)
  pub last_is : last ≡ last_mbuf first (cloned numbers p)
  pub each : AllByRecursion (IsFresh v.pools (segments_of v) pool) numbers
  pub ins : count_in ps pool + i ≡ available v.pools (segments_of v) pool
  pub specs : specs_of ps ≡ v.pools
  pub buffers : buffers_of ps ≡ v.buffers
  pub source : Linked (header_at ps) from (drop i p)
  pub there : pool < length ps

-- the source's next segment
pub record Source (ps : List PoolView) (hand : Packet) (v : Store) (h : ℕ) (p : Packet) (from : Number) (i : ℕ) : Type 0 where
  pub seg : Segment
  pub rest : Packet
  pub is : drop i p ≡ seg ∷ rest
  pub next : drop (i + 1) p ≡ rest
  pub segment : segment_at (header_at ps) from ≡ seg
  pub mbuf : seg.mbuf ≡ from
  pub refs : 1 ≤ refs (hand ++ segments_held v.slots) seg.buffer
  pub lies : Lies (specs_of ps) seg
  pub mbufs : (m : Number) → 1 ≤ mbufs (seg ∷ rest) m → 1 ≤ mbufs (segments_held v.slots) m

pub source_at : (ps : List PoolView) (hand : Packet) (v : Store) (h : ℕ) (p : Packet) (from : Number) (i : ℕ) → Whole ps hand v.slots → Has v h p →
    i < length p → Linked (header_at ps) from (drop i p) → Source ps hand v h p from i
source_at ps hand v h p from i w has b l =
    let (s, rest, is, next) = drop_some i p b in
    let links : Linked (header_at ps) from (s ∷ rest) = rw is at l in
    let slot : get_or v.slots h None ≡ Some p = get_or_from_slice_get v.slots h (Some p) None has in
    let in_slot : (f : Segment → Bool) → count_by f (s ∷ rest) ≤ count_by f (segments_held v.slots) =
    λ f. omega (arith, rw slot at (slot_among f v.slots h), ap (count_by f) is, count_drop f i p) in
    let lie = all_slot (Lies (specs_of ps)) v.slots h (all_right (Lies (specs_of ps)) hand (segments_held v.slots) w.counted.lie) in
    let in_refs = in_slot (λ t. same_number t.buffer s.buffer) in
    record {
      seg = s;
      rest = rest;
      is = is;
      next = next;
      segment = links.0;
      mbuf = first_mbuf (header_at ps) from s rest links;
      refs = omega (arith, refs_first s rest, in_refs, refs-append hand (segments_held v.slots) s.buffer);
      lies = (rw is at (all_drop (Lies (specs_of ps)) i p (rw slot at lie))).0;
      mbufs = λ m q. omega (arith, in_slot (λ t. same_number t.mbuf m));
    }

can_clone_at : (ps : List PoolView) (hand : Packet) (v : Store) (h : ℕ) (p : Packet) (from : Number) (i pool : ℕ) → Whole ps hand v.slots → length hand ≤ 64 →
    Has v h p → i < length p → Linked (header_at ps) from (drop i p) → pool < length ps → 1 ≤ count_in ps pool → CanClone ps from pool
can_clone_at ps hand v h p from i pool w few has b l there some =
    let s = source_at ps hand v h p from i w has b l in
    let eb : s.seg.buffer ≡ (header_at ps from).buffer = rw (← s.segment) in
    let in_slots = s.mbufs s.seg.mbuf (omega (arith, mbufs_first s.seg s.rest)) in
    let number : IsNumber (specs_of ps) s.seg.mbuf =
    all_at (IsNumber (specs_of ps)) (segments_held v.slots) s.seg.mbuf
    (all_right (λ t. IsNumber (specs_of ps) t.mbuf) hand (segments_held v.slots) w.counted.numbers) in_slots in
    record {
      source = rw (← s.mbuf) (object_of ps s.seg.mbuf number);
      buffer = rw (← eb) (object_of ps s.seg.buffer s.lies.number);
      buffer_out = rw (← eb, w.counted.out s.seg.buffer s.lies.number)
          (positive (mbufs (hand ++ segments_held v.slots) s.seg.buffer + refs (hand ++ segments_held v.slots) s.seg.buffer) (omega (arith, s.refs)));
      refs = rw (← eb) (refs_few ps hand v.slots s.seg.buffer w few s.refs);
      there = there;
      some = some;
    }

-- where a segment in hand is linked, no new number is
pub without : (xs ys : List Segment) (n m : Number) → mbufs (xs ++ ys) n ≡ 0 → 1 ≤ mbufs xs m + mbufs ys m → same_number n m ≡ false
without xs ys n m none some = ⊎_elim
    (λ e. absurd (omega (arith, ap (mbufs xs) e, ap (mbufs ys) e, mbufs-append xs ys n)))
    (λ d. d)
    (same_or n m)

-- what is known of the packet and the pool when the call begins
pub record Before (ps : List PoolView) (v : Store) (h : ℕ) (p : Packet) (pool : ℕ) : Type 0 where
  pub has : Has v h p
  pub whole : Whole ps [] v.slots
  pub links : Linked (header_at ps) (numbered h) p
  pub some : 1 ≤ length p
  pub few : length p ≤ 64
  pub there : pool < length ps
  pub in_pool : count_in ps pool ≡ available v.pools (segments_of v) pool
  pub segs : (header_at ps (numbered h)).segs ≡ length p
  pub specs : specs_of ps ≡ v.pools
  pub buffers : buffers_of ps ≡ v.buffers

pub before : (ps : List PoolView) (v : Store) (h : ℕ) (pool : ℕ) → shown ps ≡ v → Sound ps → pool < length v.pools → (p : Packet) → Has v h p →
    Before ps v h p pool
before ps v h pool e sound exists p has =
    let o = opened ps v h p e sound has in
    record {
      has = has;
      whole = rw (← e) sound;
      links = o.stands.links;
      some = o.stands.some;
      few = o.stands.few;
      there = pool_there ps v pool e exists;
      in_pool = sym (free_in ps v pool e sound exists);
      segs = o.stands.segs;
      specs = ap (λ s. s.pools) e;
      buffers = ap (λ s. s.buffers) e;
    }

-- the call at its start: the packet has n segments, and n mbufs are free
pub record Opening (ps : List PoolView) (v : Store) (h : ℕ) (p : Packet) (pool segs : ℕ) : Type 0 where
  pub before : Before ps v h p pool
  pub segs_are : segs ≡ length p
  pub enough : length p ≤ available v.pools (segments_of v) pool

module _ {start : List PoolView} {v : Store} {h : ℕ} {p : Packet} {pool segs : ℕ} (o : Opening start v h p pool segs) where
  has : Has v h p
  has = o.before.has

  few : length p ≤ 64
  few = o.before.few

  -- the first segment
  pub cloning_can : CanClone start (numbered h) pool
  cloning_can =
      let b = o.before in
      can_clone_at start [] v h p (numbered h) 0 pool b.whole (omega arith) has b.some b.links b.there (omega arith)

  pub cloning_start : (ps' : List PoolView) (n : Number) → n.pool ≡ pool → Cloned start (numbered h) n ps' →
      Cloning ps' v h p pool n n (header_at start (numbered h)).next 1
  cloning_start ps' n ep c =
      let ps : List PoolView = start in
      let b = o.before in
      let s = source_at ps [] v h p (numbered h) 0 b.whole has b.some b.links in
      let g = grown_clone ps ps' [] v.slots (numbered h) n s.seg b.whole c s.segment s.refs s.lies in
      let push : cloned (n ∷ []) p ≡ clone_at n s.seg ∷ [] = cloned_push [] p n s.seg s.rest s.is in
      let links : Linked (header_at ps') (numbered h) (s.seg ∷ s.rest) =
      linked_kept (header_at ps) (header_at ps') (numbered h) (s.seg ∷ s.rest) (λ m q. let i = s.mbufs m q in
      g.others m (without [] (segments_held v.slots) n m g.nothing (omega (arith, i)))) (rw s.is at b.links) in
      let next : (header_at ps' (numbered h)).next ≡ (header_at ps (numbered h)).next =
      (g.others (numbered h) (without [] (segments_held v.slots) n (numbered h) g.nothing
      (let i = s.mbufs s.seg.mbuf (omega (arith, mbufs_first s.seg s.rest)) in
      subst (λ m. 1 ≤ mbufs [] m + mbufs (segments_held v.slots) m) s.mbuf (omega arith)))).next in
      record {
        numbers = n ∷ [];
        count = refl;
        some = omega arith;
        below = b.some;
        few = few;
        whole = rw push g.whole;
        links = rw push (g.segment, tt);
        last_is = rw push;
        each = (record { of_pool = ep; exists = rw b.specs at g.number; free = g.free }, tt);
        ins = omega (arith, rw ep at g.ins, b.in_pool);
        specs = rw g.specs b.specs;
        buffers = rw g.buffers b.buffers;
        source = rw (s.next, ← next) links.1;
        there = omega (arith, b.there, ap length g.specs, length_specs ps, length_specs ps');
      }

  module _ {ps : List PoolView} {first last from : Number} {i : ℕ} (c : Cloning ps v h p pool first last from i) (below : i < segs) where
    b : i < length p
    b = omega arith

    abbrev made : Packet
    made = cloned c.numbers p

    many : length (cloned c.numbers p) ≡ i
    many = rw (length_cloned c.numbers p (omega (arith, b))) c.count

    pub step_can : CanClone ps from pool
    step_can =
        can_clone_at ps made v h p from i pool c.whole (omega (arith, many, b, few)) has b c.source c.there (omega (arith, b))

    pub step_last : (ps1 : List PoolView) (n : Number) → Cloned ps from n ps1 → HasObject ps1 last
    step_last ps1 n k =
        let s = source_at ps made v h p from i c.whole has b c.source in
        let g = grown_clone ps ps1 made v.slots from n s.seg c.whole k s.segment s.refs s.lies in
        let in_made = last_of_links (header_at ps) first made (omega (arith, many)) c.links in
        rw c.last_is
        (object_of ps1 (last_mbuf first made) (all_at (IsNumber (specs_of ps1)) (made
        ++ segments_held v.slots) (last_mbuf first made) g.whole.counted.numbers.1
        (omega (arith, in_made, mbufs-append made (segments_held v.slots) (last_mbuf first made)))))

    pub step_done : (ps1 ps2 : List PoolView) (n : Number) → n.pool ≡ pool → Cloned ps from n ps1 →
        HeaderSet ps1 last (record (header_at ps1 last) { next = n }) ps2 →
        HasObject ps2 from × Cloning ps2 v h p pool first n (header_at ps2 from).next (i + 1)
    step_done ps1 ps2 n ep k done =
        let s = source_at ps made v h p from i c.whole has b c.source in
        let g = grown_clone ps ps1 made v.slots from n s.seg c.whole k s.segment s.refs s.lies in
        let none = g.nothing in
        let push : cloned (c.numbers ++ n ∷ []) p ≡ made ++ clone_at n s.seg ∷ [] =
        cloned_push c.numbers p n s.seg s.rest (rw c.count s.is) in
        let whole1 = reordered ps1 (clone_at n s.seg) made v.slots g.whole in
        let links1 : Linked (header_at ps1) first made =
        linked_kept (header_at ps) (header_at ps1) first made (λ m q. g.others m (without made (segments_held v.slots) n m none (omega (arith, q)))) c.links in
        let j = joined ps1 ps2 made (clone_at n s.seg ∷ []) v.slots first n whole1 (omega (arith, many)) links1 (g.segment, tt) (rw c.last_is at done) in
        let in_made = last_of_links (header_at ps) first made (omega (arith, many)) c.links in
        let once = c.whole.counted.once (last_mbuf first made) in
        let source1 : Linked (header_at ps2) from (s.seg ∷ s.rest) =
        linked_kept (header_at ps) (header_at ps2) from (s.seg ∷ s.rest)
        (λ m q. let held = s.mbufs m q in
        let d : same_number n m ≡ false = without made (segments_held v.slots) n m none (omega (arith, held)) in
        let x = g.others m d in
        ⊎_elim
        (λ e. absurd (omega (
          arith,
          ap (mbufs (segments_held v.slots)) (sym c.last_is ∙ e),
          held,
          once,
          in_made,
          mbufs-append made (segments_held v.slots) (last_mbuf first made),
        )))
        (λ o. rw (done.others m o) x)
        (same_or last m))
        (rw s.is at c.source) in
        let held_from = s.mbufs s.seg.mbuf (omega (arith, mbufs_first s.seg s.rest)) in
        let number : IsNumber (specs_of ps2) s.seg.mbuf =
        all_at (IsNumber (specs_of ps2)) (segments_held v.slots) s.seg.mbuf
        (all_right (λ t. IsNumber (specs_of ps2) t.mbuf) (made ++ clone_at n s.seg ∷ []) (segments_held v.slots) j.0.counted.numbers) held_from in
        let e1 : length (c.numbers ++ n ∷ []) ≡ i + 1 = omega (arith, length-append c.numbers (n ∷ [])) in (
          rw (← s.mbuf) (object_of ps2 s.seg.mbuf number),
          record {
            numbers = c.numbers ++ n ∷ [];
            count = e1;
            some = omega arith;
            below = omega (arith, b);
            few = few;
            whole = rw push j.0;
            links = rw push j.1;
            last_is = rw (push, last_mbuf_is (clone_at n s.seg) first made);
            each = all_join (IsFresh v.pools (segments_of v) pool) c.numbers (n ∷ []) c.each
                (record { of_pool = ep; exists = rw c.specs at g.number; free = g.free }, tt);
            ins = omega (arith, rw ep at g.ins, done.ins pool);
            specs = rw (done.specs, g.specs) c.specs;
            buffers = rw (done.buffers, g.buffers) c.buffers;
            source = rw s.next source1.1;
            there = omega (arith, ap length (rw g.specs at done.specs), length_specs ps, length_specs ps2);
          },
        )

  module _ {ps : List PoolView} {first last from : Number} {i : ℕ} (c : Cloning ps v h p pool first last from i) (ends : segs ≤ i) where
    all : length p ≤ i
    all = omega arith

    pub end_object : HasObject ps first
    end_object =
        let l : length (cloned c.numbers p) ≡ i = rw (length_cloned c.numbers p (omega arith)) c.count in
        let f = first_in (header_at ps) first (cloned c.numbers p) (omega arith) c.links in
        object_of ps first (all_at (IsNumber (specs_of ps)) (cloned c.numbers p) first
        (all_left (λ t. IsNumber (specs_of ps) t.mbuf) (cloned c.numbers p) (segments_held v.slots) c.whole.counted.numbers) f)

    pub end_done : (ps' : List PoolView) (r : ℕ) → r ≡ handle first →
        HeaderSet ps first (record (header_at ps first) { segs = segs; last = last }) ps' →
        Sound ps' × Gives v pool (length p) (λ ns. cloned ns p) (λ ns old new. new ≡ old) (shown ps') (Some r)
    end_done ps' r er done =
        let l : length (cloned c.numbers p) ≡ i = rw (length_cloned c.numbers p (omega arith)) c.count in
        let k = first_set ps ps' v.slots first (cloned c.numbers p) (record (header_at ps first) { segs = segs; last = last }) c.whole c.links
        (omega arith) (omega (arith, few)) done (omega (arith, all)) c.last_is refl
        (record { offset = refl; len = refl; next = refl; buffer = refl }) in
        let d = settled ps' (set v.slots (handle first) (Some (cloned c.numbers p))) k.0 in
        let there : handle first < length v.slots = omega (arith, c.whole.shows.many, (number_small ps first c.whole.are end_object).2) in (
          d.0,
          rw er (
            o.enough,
            rw (slice_get-get_or v.slots (handle first) None there) (rw k.1),
            c.numbers,
            v.buffers,
            record {
              count = omega (arith, all);
              distinct = distinct c.numbers p (omega arith) (λ m.
                  omega (arith, c.whole.counted.once m, mbufs-append (cloned c.numbers p) (segments_held v.slots) m));
              each = c.each;
            },
            refl,
            store_eq (shown ps') (record v { buffers = v.buffers; slots = slice_set v.slots (handle first) (Some (cloned c.numbers p)) })
                (rw done.specs c.specs) (rw done.buffers c.buffers) d.1,
          ),
        )

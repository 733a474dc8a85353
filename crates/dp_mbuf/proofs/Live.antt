-- What the headers show of a live packet, and how a call changes the store.
use Rattle.std.proofs.Common.{◌≡◌, ℕ, zero, suc, ◌+◌, ◌-◌, ◌<◌, ◌≤◌, List, [], ◌∷◌, ◌++◌, length, Option, Some, None, refl, ◌∙◌, ap, arith}
use Rattle.std.proofs.Common.{⊎_elim, get_or, set}
use Rattle.std.specs.Prelude.{slice_set, replicate}
use Rattle.std.specs.List.{AllByRecursion}
use Rattle.std.proofs.lemmas.Bool.{cases_lt}
use Rattle.std.proofs.lemmas.Option.{get_or_from_slice_get}
use Rattle.dp_model.specs.declared.env.PoolSpec.{PoolSpec}
use Rattle.dp_model.specs.Environments.{room_at}
use Rattle.dp_model.specs.Buffers.{Number, same_number, IsNumber, Buffers, written}
use Rattle.dp_model.specs.Packets.{Segment, Packet, Lies, headroom, tailroom, first_len, last_len, room_after, at_front, at_end, less_before, less_after}
use Rattle.dp_model.specs.Packets.{zeroed_after}
use Rattle.dp_model.specs.Stores.{Store, Has, HasSome, IsLive, Of, Becomes, unwritten}
use Rattle.dp_mbuf.specs.declared.header.Header.{Header}
use Rattle.dp_pool.specs.Pools.{PoolView}
use Rattle.dp_mbuf.specs.Objects.{header_at, specs_of, buffers_of, HasObject, ArePools, HeaderSet}
use Rattle.dp_mbuf.specs.Mbufs.{MbufsView, numbered, segment_at, slots_of, shown, mbufs, last_mbuf, Stands, Whole, Sound}
use Rattle.dp_mbuf.proofs.ObjectLemmas.{object_pool, room_is}
use Rattle.dp_mbuf.proofs.Counting.{all_slot, slot_among}
use Rattle.dp_mbuf.proofs.Links.{first_in, linked_at}
use Rattle.dp_mbuf.proofs.Frames.{object_of, same_slots}
use Rattle.dp_mbuf.proofs.Edits.{all_at, edited}
use Rattle.dp_model.specs.Laws.Lists.{all_right}

-- ---- the store

pub same_store : {a b : MbufsView} → a ≡ b → a.store ≡ b.store
same_store e = rw e

pub same_zones : {a b : MbufsView} → a ≡ b → a.zones ≡ b.zones
same_zones e = rw e

pub store_eq : (s t : Store) → s.pools ≡ t.pools → s.buffers ≡ t.buffers → s.slots ≡ t.slots → s ≡ t
store_eq s t a b c = λ i. record { pools = a i; buffers = b i; slots = c i }

pub has_same : (v : Store) (h : ℕ) (k j : Packet) → Has v h k → Has v h j → k ≡ j
has_same v h k j a b = cc

-- the slots that the headers show determine everything
pub settled : (ps : List PoolView) (slots : List (Option Packet)) → Whole ps [] slots → Sound ps × (slots_of ps ≡ slots)
settled ps slots w =
    let e = same_slots ps slots w.shows in (rw e w, e)

-- the store after a call
pub seen : (ps ps' : List PoolView) (v : Store) (buffers : Buffers) (slots : List (Option Packet)) → shown ps ≡ v → specs_of ps' ≡ specs_of ps →
    buffers_of ps' ≡ buffers → slots_of ps' ≡ slots → shown ps' ≡ record v { buffers = buffers; slots = slots }
seen ps ps' v buffers slots e a b c =
    store_eq (shown ps') (record v { buffers = buffers; slots = slots }) (rw (← e) a) b c

-- ---- a live packet

pub record Opened (ps : List PoolView) (v : Store) (h : ℕ) (k : Packet) : Type 0 where
  pub slot : get_or (slots_of ps) h None ≡ Some k
  pub stands : Stands ps (numbered h) k
  pub object : HasObject ps (numbered h)
  pub numbers : AllByRecursion (λ s. IsNumber (specs_of ps) s.mbuf) k
  pub lie : AllByRecursion (Lies (specs_of ps)) k
  pub once : (m : Number) → mbufs k m ≤ 1
  pub small : (j : ℕ) → room_at (specs_of ps) j ≤ 4096

pub rooms_small : (ps : List PoolView) → ArePools ps → (j : ℕ) → room_at (specs_of ps) j ≤ 4096
rooms_small ps are j = ⊎_elim
    (λ b. omega (arith, room_is ps j, (are.rooms j b).room))
    (λ past. omega (arith, none ps j past))
    (cases_lt j (length ps))
  where
    none : (ps : List PoolView) (j : ℕ) → length ps ≤ j → room_at (specs_of ps) j ≡ 0
    none [] j past = refl
    none (p ∷ ps) zero past = absurd (omega arith)
    none (p ∷ ps) (suc j) past = none ps j (omega arith)

pub opened : (ps : List PoolView) (v : Store) (h : ℕ) (k : Packet) → shown ps ≡ v → Sound ps → Has v h k → Opened ps v h k
opened ps v h k e sound has =
    let slot : get_or (slots_of ps) h None ≡ Some k = get_or_from_slice_get (slots_of ps) h (Some k) None (rw (← e) at has) in
    let stands : Stands ps (numbered h) k = rw slot at (sound.shows.each h) in
    let numbers : AllByRecursion (λ s. IsNumber (specs_of ps) s.mbuf) k =
    rw slot at (all_slot (λ s. IsNumber (specs_of ps) s.mbuf) (slots_of ps) h sound.counted.numbers) in
    record {
      slot = slot;
      stands = stands;
      object = object_of ps (numbered h) (all_at (IsNumber (specs_of ps)) k (numbered h) numbers
          (first_in (header_at ps) (numbered h) k stands.some stands.links));
      numbers = numbers;
      lie = rw slot at (all_slot (Lies (specs_of ps)) (slots_of ps) h sound.counted.lie);
      once = λ m. omega (arith, rw slot at (slot_among (λ t. same_number t.mbuf m) (slots_of ps) h), sound.counted.once m);
      small = rooms_small ps sound.are;
    }

-- ---- its first segment

pub record First (ps : List PoolView) (h : ℕ) (k : Packet) : Type 0 where
  pub seg : Segment
  pub rest : Packet
  pub is : k ≡ seg ∷ rest
  pub mbuf : seg.mbuf ≡ numbered h
  pub header : segment_at (header_at ps) (numbered h) ≡ seg
  pub lies : Lies (specs_of ps) seg

pub first_of : (ps : List PoolView) (v : Store) (h : ℕ) (k : Packet) → Opened ps v h k → First ps h k
first_of ps v h [] o = absurd (omega arith)
first_of ps v h (s ∷ rest) o = record {
  seg = s;
  rest = rest;
  is = refl;
  mbuf = rw (← o.stands.links.0);
  header = o.stands.links.0;
  lies = o.lie.0;
}

-- ---- its last segment

pub record Last (k : Packet) : Type 0 where
  pub before : Packet
  pub seg : Segment
  pub is : k ≡ before ++ seg ∷ []

pub last_of : (k : Packet) → 1 ≤ length k → Last k
last_of [] h = absurd (omega arith)
last_of (s ∷ []) h = record { before = []; seg = s; is = refl }
last_of (s ∷ t ∷ rest) h =
    let q = last_of (t ∷ rest) (omega arith) in
    record { before = s ∷ q.before; seg = q.seg; is = cc }

module _ (s : Segment) where
  pub last_len_is : (before : Packet) → last_len (before ++ s ∷ []) ≡ s.len
  last_len_is [] = refl
  last_len_is (a ∷ []) = refl
  last_len_is (a ∷ b ∷ before) = last_len_is (b ∷ before)

  pub tailroom_is : (pools : List PoolSpec) (before : Packet) → tailroom pools (before ++ s ∷ []) ≡ room_after pools s
  tailroom_is pools [] = refl
  tailroom_is pools (a ∷ []) = refl
  tailroom_is pools (a ∷ b ∷ before) = tailroom_is pools (b ∷ before)

  pub at_end_is : (f : Segment → Segment) (before : Packet) → at_end f (before ++ s ∷ []) ≡ before ++ f s ∷ []
  at_end_is f [] = refl
  at_end_is f (a ∷ []) = refl
  at_end_is f (a ∷ b ∷ before) = cc (at_end_is f (b ∷ before))

  pub zeroed_is : (n : ℕ) (before : Packet) (buffers : Buffers) → zeroed_after n (before ++ s ∷ []) buffers
      ≡ written buffers s.buffer (s.offset + s.len) (replicate n 0)
  zeroed_is n [] buffers = refl
  zeroed_is n (a ∷ []) buffers = refl
  zeroed_is n (a ∷ b ∷ before) buffers = zeroed_is n (b ∷ before) buffers

  pub last_mbuf_is : (n : Number) (before : Packet) → last_mbuf n (before ++ s ∷ []) ≡ s.mbuf
  last_mbuf_is n [] = refl
  last_mbuf_is n (a ∷ before) = last_mbuf_is a.mbuf before

-- the header of the last segment, as the first one has it
pub record LastAt (ps : List PoolView) (h : ℕ) (k : Packet) : Type 0 where
  pub before : Packet
  pub seg : Segment
  pub is : k ≡ before ++ seg ∷ []
  pub mbuf : (header_at ps (numbered h)).last ≡ seg.mbuf
  pub header : segment_at (header_at ps) seg.mbuf ≡ seg
  pub object : HasObject ps seg.mbuf
  pub lies : Lies (specs_of ps) seg

pub last_at : (ps : List PoolView) (v : Store) (h : ℕ) (k : Packet) → Opened ps v h k → LastAt ps h k
last_at ps v h k o =
    let l = last_of k o.stands.some in
    let n : Number = numbered h in
    record {
      before = l.before;
      seg = l.seg;
      is = l.is;
      mbuf = cc (o.stands.last, last_mbuf_is l.seg n l.before);
      header = linked_at (header_at ps) n l.before l.seg [] (rw l.is at o.stands.links);
      object = object_of ps l.seg.mbuf (all_right (λ s. IsNumber (specs_of ps) s.mbuf) l.before (l.seg ∷ []) (rw l.is at o.numbers)).0;
      lies = (all_right (Lies (specs_of ps)) l.before (l.seg ∷ []) (rw l.is at o.lie)).0;
    }

-- ---- an edit of the first or the last segment, as the store shows it

abbrev pub moved : Header → ℕ → ℕ → Header
moved x o l = record x { offset = o; len = l }

pub front_edited : (ps ps' : List PoolView) (h : ℕ) (s : Segment) (rest : Packet) (f : Segment → Segment) (o l : ℕ) → Sound ps → get_or (slots_of ps) h None
    ≡ Some (s ∷ rest) → s.mbuf ≡ numbered h → segment_at (header_at ps) (numbered h) ≡ s →
    HeaderSet ps (numbered h) (moved (header_at ps (numbered h)) o l) ps' → f s ≡ record s { offset = o; len = l } → Lies (specs_of ps) (f s) →
    Sound ps' × (slots_of ps' ≡ set (slots_of ps) h (Some (f s ∷ rest)))
front_edited ps ps' h s rest f o l sound slot mb is done ef lies =
    settled ps' (set (slots_of ps) h (Some (f s ∷ rest)))
    (edited ps ps' (slots_of ps) h [] s (f s) rest (moved (header_at ps (numbered h)) o l) sound slot (rw mb done) (rw mb) (rw mb) (rw mb) (rw mb)
    (rw (ef, ← is)) (rw ef) (rw ef) (rw ef) (rw ef) lies)

pub end_edited : (ps ps' : List PoolView) (h : ℕ) (before : Packet) (s : Segment) (f : Segment → Segment) (o l : ℕ) → Sound ps → get_or (slots_of ps) h None
    ≡ Some (before ++ s ∷ []) → segment_at (header_at ps) s.mbuf ≡ s → HeaderSet ps s.mbuf (moved (header_at ps s.mbuf) o l) ps' →
    f s ≡ record s { offset = o; len = l } → Lies (specs_of ps) (f s) → Sound ps' × (slots_of ps' ≡ set (slots_of ps) h (Some (before ++ f s ∷ [])))
end_edited ps ps' h before s f o l sound slot is done ef lies =
    settled ps' (set (slots_of ps) h (Some (before ++ f s ∷ [])))
    (edited ps ps' (slots_of ps) h before s (f s) [] (moved (header_at ps s.mbuf) o l) sound slot done refl refl refl refl (cc (ap (λ t. t.buffer) is)) (rw ef)
    (rw ef) (rw ef) (rw ef) lies)

-- ---- what readers answer

module _ (ps : List PoolView) (v : Store) (h : ℕ) (e : shown ps ≡ v) (sound : Sound ps) where
  pub live_object : IsLive v h → HasObject ps (numbered h)
  live_object live = (opened ps v h live.0 e sound live.1).object

  pub last_object : IsLive v h → HasObject ps (header_at ps (numbered h)).last
  last_object live =
      let l = last_at ps v h live.0 (opened ps v h live.0 e sound live.1) in rw l.mbuf l.object

  pub headroom_is : (x : Header) → x ≡ header_at ps (numbered h) → Of v h (λ k. x.offset ≡ headroom k)
  headroom_is x ex k has =
      let f = first_of ps v h k (opened ps v h k e sound has) in rw (ex, f.is) (ap (λ t. t.offset) f.header)

  pub first_len_is : (x : Header) → x ≡ header_at ps (numbered h) → Of v h (λ k. x.len ≡ first_len k)
  first_len_is x ex k has =
      let f = first_of ps v h k (opened ps v h k e sound has) in rw (ex, f.is) (ap (λ t. t.len) f.header)

  pub segments_is : (x : Header) → x ≡ header_at ps (numbered h) → Of v h (λ k. x.segs ≡ length k)
  segments_is x ex k has = rw ex (opened ps v h k e sound has).stands.segs

  abbrev last_header : Header
  last_header = header_at ps (header_at ps (numbered h)).last

  pub last_length_is : (x : Header) → x ≡ header_at ps (header_at ps (numbered h)).last → Of v h (λ k. x.len ≡ last_len k)
  last_length_is x ex k has = by (last_at ps v h k (opened ps v h k e sound has))
    where
      by : LastAt ps h k → x.len ≡ last_len k
      by l = rw (ex, l.mbuf, l.is, last_len_is l.seg l.before) (ap (λ t. t.len) l.header)

  pub last_room : IsLive v h → (x : Header) → x ≡ header_at ps (header_at ps (numbered h)).last →
      (x.buffer.pool < length ps) × (x.offset + x.len ≤ room_at (specs_of ps) x.buffer.pool)
  last_room live x ex =
      let l = last_at ps v h live.0 (opened ps v h live.0 e sound live.1) in
      let lies : Lies (specs_of ps) (segment_at (header_at ps) (header_at ps (numbered h)).last) = rw (l.mbuf, l.header) l.lies in
      rw ex (object_pool ps last_header.buffer (object_of ps last_header.buffer lies.number), lies.fits)

  pub tailroom_is_left : (x : Header) (room : ℕ) → x ≡ header_at ps (header_at ps (numbered h)).last → room ≡ room_at (specs_of ps) x.buffer.pool →
      Of v h (λ k. room - x.offset - x.len ≡ tailroom v.pools k)
  tailroom_is_left x room ex er k has =
      let l = last_at ps v h k (opened ps v h k e sound has) in
      let at : room_after (specs_of ps) (segment_at (header_at ps) l.seg.mbuf) ≡ tailroom v.pools k =
      cc (l.is, l.header, tailroom_is l.seg (specs_of ps) l.before, ap (λ s. s.pools) e) in
      rw (er, ex, l.mbuf) at

  -- ---- adj and trim

  pub first_fits : (x : Header) (n : ℕ) → x ≡ header_at ps (numbered h) → HasSome v h (λ k. n ≤ first_len k) →
      (n ≤ x.len) × (x.offset + x.len ≤ 4096) × HasObject ps (numbered h)
  first_fits x n ex (k, has, fit) =
      let o = opened ps v h k e sound has in
      let f = first_of ps v h k o in
      let lies : Lies (specs_of ps) (segment_at (header_at ps) (numbered h)) = rw f.header f.lies in
      (omega (arith, first_len_is x ex k has), rw ex (omega (arith, lies.fits, o.small (header_at ps (numbered h)).buffer.pool)), o.object)

  pub last_fits : (x : Header) (n : ℕ) → x ≡ header_at ps (header_at ps (numbered h)).last → HasSome v h (λ k. n ≤ last_len k) → n ≤ x.len
  last_fits x n ex (k, has, fit) = omega (arith, last_length_is x ex k has)

  pub adj_done : (ps' : List PoolView) (n : ℕ) → HasSome v h (λ k. n ≤ first_len k) →
      HeaderSet ps (numbered h) (moved (header_at ps (numbered h)) ((header_at ps (numbered h)).offset + n) ((header_at ps (numbered h)).len - n)) ps' →
      Sound ps' × Becomes v (shown ps') h (at_front (less_before n)) unwritten
  adj_done ps' n (first, has_first, fit) done =
      let all : (k : Packet) → Has v h k → Sound ps' × (slots_of ps' ≡ set (slots_of ps) h (Some (at_front (less_before n) k))) =
      λ k has. let o = opened ps v h k e sound has in
      let f = first_of ps v h k o in
      let same : first_len first ≡ f.seg.len = ap first_len (has_same v h first k has_first has ∙ f.is) in
      let d = front_edited ps ps' h f.seg f.rest (less_before n) ((header_at ps (numbered h)).offset + n) ((header_at ps (numbered h)).len - n) sound
      (rw f.is at o.slot) f.mbuf f.header done (rw (← f.header)) (record { fits = omega (arith, f.lies.fits); number = f.lies.number }) in
      rw f.is d in (
        (all first has_first).0,
        λ k has. rw (← e) (seen ps ps' (shown ps) (buffers_of ps) (slice_set (slots_of ps) h (Some (at_front (less_before n) k))) refl done.specs done.buffers
            (all k has).1),
      )

  pub trim_done : (ps' : List PoolView) (n : ℕ) → HasSome v h (λ k. n ≤ last_len k) →
      HeaderSet ps (header_at ps (numbered h)).last (record (header_at ps (header_at ps (numbered h)).last)
      { len = (header_at ps (header_at ps (numbered h)).last).len - n }) ps' → Sound ps' × Becomes v (shown ps') h (at_end (less_after n)) unwritten
  trim_done ps' n r done =
      let all : (k : Packet) → Has v h k → Sound ps' × (slots_of ps' ≡ set (slots_of ps) h (Some (at_end (less_after n) k))) =
      λ k has. let o = opened ps v h k e sound has in
      let l = last_at ps v h k o in
      let d = end_edited ps ps' h l.before l.seg (less_after n) (header_at ps l.seg.mbuf).offset ((header_at ps l.seg.mbuf).len - n) sound (rw l.is at o.slot)
      l.header (rw l.mbuf at done) (rw (← l.header)) (record { fits = omega (arith, l.lies.fits); number = l.lies.number }) in
      rw (l.is, at_end_is l.seg (less_after n) l.before) d in (
        (all r.0 r.1).0,
        λ k has. rw (← e) (seen ps ps' (shown ps) (buffers_of ps) (slice_set (slots_of ps) h (Some (at_end (less_after n) k))) refl done.specs done.buffers
            (all k has).1),
      )

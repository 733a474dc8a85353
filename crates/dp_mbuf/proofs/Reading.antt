-- Reading a live packet's segments.
use Rattle.std.proofs.Common.{◌≡◌, ℕ, zero, suc, ◌+◌, ◌-◌, ◌*◌, ◌<◌, ◌≤◌, List, [], ◌∷◌, length, drop, Some, ap, arith}
use Rattle.std.specs.Prelude.{slice_get}
use Rattle.std.specs.List.{AllByRecursion}
use Rattle.std.proofs.lemmas.List.{length-append, length-drop, length-take-le}
use Rattle.dp_model.specs.Environments.{room_at}
use Rattle.dp_model.specs.Buffers.{Number, IsNumber, bytes_of}
use Rattle.dp_model.specs.Packets.{Segment, Packet, refs, Lies, IsSole, segment_bytes, packet_bytes}
use Rattle.dp_model.specs.Stores.{Store, Has, HasSome, segments_of}
use Rattle.dp_mbuf.specs.declared.header.Header.{Header}
use Rattle.dp_pool.specs.Pools.{PoolView}
use Rattle.dp_mbuf.specs.Objects.{header_at, specs_of, buffers_of, HasObject}
use Rattle.dp_mbuf.specs.Mbufs.{numbered, segment_at, shown, Linked, Whole, Sound, HasWalk}
use Rattle.dp_mbuf.proofs.ObjectLemmas.{bytes_are, room_is, object_pool}
use Rattle.dp_mbuf.proofs.Links.{first_mbuf}
use Rattle.dp_mbuf.proofs.Frames.{object_of}
use Rattle.dp_mbuf.proofs.Live.{opened, rooms_small}
use Rattle.dp_mbuf.proofs.Cloning.{source_at, drop_some, all_drop}

-- ---- along the links

pub walk_object : (ps : List PoolView) (first mbuf : Number) (k i : ℕ) (w : HasWalk ps first k) → Linked (header_at ps) mbuf (drop i w.0) → i < k →
    HasObject ps mbuf
walk_object ps first mbuf k i (p, _, numbers, within) l b =
    let (s, rest, is, _) = drop_some i p (omega (arith, b, within)) in
    let left : AllByRecursion (λ s. IsNumber (specs_of ps) s.mbuf) (s ∷ rest) = rw is at (all_drop (λ s. IsNumber (specs_of ps) s.mbuf) i p numbers) in
    rw (← first_mbuf (header_at ps) mbuf s rest (rw is at l)) (object_of ps s.mbuf left.0)

pub walk_next : (h : Number → Header) (mbuf : Number) (i : ℕ) (p : Packet) → i < length p → Linked h mbuf (drop i p) →
    Linked h (h mbuf).next (drop (i + 1) p)
walk_next h mbuf i p b l =
    let (s, rest, is, next) = drop_some i p b in
    let links : Linked h mbuf (s ∷ rest) = rw is at l in
    rw next links.1

-- ---- one segment

pub record Part (ps : List PoolView) (v : Store) (p : Packet) (n : Number) (i : ℕ) : Type 0 where
  pub seg : Segment
  pub rest : Packet
  pub is : drop i p ≡ seg ∷ rest
  pub next : drop (i + 1) p ≡ rest
  pub object : HasObject ps n
  pub segment : segment_at (header_at ps) n ≡ seg
  pub buffer : HasObject ps (header_at ps n).buffer
  pub fits : (header_at ps n).offset + (header_at ps n).len ≤ room_at (specs_of ps) (header_at ps n).buffer.pool
  pub small : (header_at ps n).len ≤ 4096
  pub refs : (header_at ps (header_at ps n).buffer).refs ≡ refs (segments_of v) seg.buffer
  pub lies : Lies (specs_of ps) seg

module _ (ps : List PoolView) (v : Store) (h : ℕ) (e : shown ps ≡ v) (sound : Sound ps) where
  pub has_walk : (k : ℕ) → HasSome v h (λ p. k < length p) → HasWalk ps (numbered h) k
  has_walk k (p, has, within) = let o = opened ps v h p e sound has in (p, o.stands.links, o.numbers, within)

  pub links_of : (p : Packet) → Has v h p → Linked (header_at ps) (numbered h) p
  links_of p has = (opened ps v h p e sound has).stands.links

  pub many_of : (p : Packet) → Has v h p → ((header_at ps (numbered h)).segs ≡ length p) × (length p ≤ 64)
  many_of p has = let s = (opened ps v h p e sound has).stands in (s.segs, s.few)

  pub part : (p : Packet) (n : Number) (i : ℕ) → Has v h p → i < length p → Linked (header_at ps) n (drop i p) → Part ps v p n i
  part p n i has b l =
      let o = opened ps v h p e sound has in
      let w : Whole ps [] v.slots = rw (← e) sound in
      let s = source_at ps [] v h p n i w has b l in
      let number = rw s.is at (all_drop (λ t. IsNumber (specs_of ps) t.mbuf) i p o.numbers) in
      let lies : Lies (specs_of ps) (segment_at (header_at ps) n) = rw s.segment s.lies in
      record {
        seg = s.seg;
        rest = s.rest;
        is = s.is;
        next = s.next;
        object = rw (← s.mbuf) (object_of ps s.seg.mbuf number.0);
        segment = s.segment;
        buffer = object_of ps (header_at ps n).buffer lies.number;
        fits = lies.fits;
        small = omega (arith, lies.fits, o.small (header_at ps n).buffer.pool);
        refs = rw (ap (λ t. t.buffer) s.segment) (w.counted.stored s.seg.buffer s.refs);
        lies = s.lies;
      }

  -- the same of the packet that there is, by the walk to the mbuf
  pub part_there : (n : Number) (k : ℕ) (r : HasSome v h (λ p. k < length p)) →
      ((p : Packet) → Linked (header_at ps) (numbered h) p → k < length p → Linked (header_at ps) n (drop k p)) → Part ps v r.0 n k
  part_there n k (p, has, within) walk = part p n k has within (walk p (links_of p has) within)

  -- ---- whether a packet is sole

  pub sole_more : (p : Packet) (n : Number) (i : ℕ) → Has v h p → i < length p → Linked (header_at ps) n (drop i p) →
      (header_at ps (header_at ps n).buffer).refs ≡ 1 → (IsSole (segments_of v) (drop i p) → IsSole (segments_of v) p) →
      IsSole (segments_of v) (drop (i + 1) p) → IsSole (segments_of v) p
  sole_more p n i has b l one so rest =
      let q = part p n i has b l in
      so (rw q.is (rw (← q.refs) one, rw q.next at rest))

  pub sole_not : (p : Packet) (n : Number) (i : ℕ) → Has v h p → i < length p → Linked (header_at ps) n (drop i p) →
      ((header_at ps (header_at ps n).buffer).refs ≡ 1 → ⊥) → IsSole (segments_of v) p → ⊥
  sole_not p n i has b l other sole =
      let q = part p n i has b l in
      other (rw q.refs (rw q.is at (all_drop (λ s. refs (segments_of v) s.buffer ≡ 1) i p sole)).0)

  -- ---- its length

  abbrev pub bytes_left : Packet → ℕ
  bytes_left p = length (packet_bytes v.buffers p)

  room_long : (n : Number) → IsNumber (specs_of ps) n → length (bytes_of (buffers_of ps) n) ≡ room_at (specs_of ps) n.pool
  room_long n number =
      let object = object_of ps n number in
      let r = sound.are.rooms n.pool (object_pool ps n object) in
      rw (bytes_are ps n, length-drop) (omega (arith, r.pool.sizes n.index object, room_is ps n.pool))

  segment_long : (s : Segment) → Lies (specs_of ps) s → length (segment_bytes v.buffers s) ≡ s.len
  segment_long s lies =
      let f = lies.fits in
      let l = room_long s.buffer lies.number in
      let d = length-drop s.offset (bytes_of (buffers_of ps) s.buffer) in
      let t = length-take-le (s.offset + s.len - s.offset) (drop s.offset (bytes_of (buffers_of ps) s.buffer)) (omega (arith, d, l, f)) in
      rw (← e, t) (omega arith)

  pub length_more : (p : Packet) (n : Number) (i total : ℕ) → Has v h p → i < length p → Linked (header_at ps) n (drop i p) → total + bytes_left (drop i p)
      ≡ bytes_left p → total + (header_at ps n).len + bytes_left (drop (i + 1) p) ≡ bytes_left p
  length_more p n i total has b l so =
      let q = part p n i has b l in
      let d = length-append (segment_bytes v.buffers q.seg) (packet_bytes v.buffers q.rest) in
      omega (arith, d, ap bytes_left q.is, ap bytes_left q.next, ap (λ t. t.len) q.segment, segment_long q.seg q.lies)

  pub length_few : (p : Packet) → Has v h p → bytes_left p ≤ 262144
  length_few p has =
      let o = opened ps v h p e sound has in
      omega (arith, o.stands.few, all p o.lie)
    where
      all : (p : Packet) → AllByRecursion (Lies (specs_of ps)) p → bytes_left p ≤ 4096 * length p
      all [] a = omega arith
      all (s ∷ p) a =
          let small = rooms_small ps sound.are s.buffer.pool in
          omega (arith, all p a.1, a.0.fits, small, segment_long s a.0, length-append (segment_bytes v.buffers s) (packet_bytes v.buffers p))

-- ---- the k-th segment

pub nth_is : (p : Packet) (k : ℕ) (s seg : Segment) (rest : Packet) → slice_get p k ≡ Some s → drop k p ≡ seg ∷ rest → seg ≡ s
nth_is [] k s seg rest e d = cc
nth_is (t ∷ p) zero s seg rest e d = cc
nth_is (t ∷ p) (suc k) s seg rest e d = nth_is p k s seg rest e d

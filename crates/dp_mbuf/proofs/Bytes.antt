-- Reading and writing bytes of a live packet.
use Rattle.std.proofs.Common.{◌≡◌, ℕ, ◌+◌, ◌-◌, ◌≤◌, List, [], ◌∷◌, ◌++◌, length, take, drop, Some, None, refl, sym, ap, ◌∙◌, arith, get_or}
use Rattle.std.proofs.Common.{set}
use Rattle.std.specs.Prelude.{slice_set, slice_range, replicate}
use Rattle.std.proofs.lemmas.List.{length-drop, take_all, take-take, drop-drop, drop-take}
use Rattle.dp_model.specs.Arithmetic.{big_endian, spelled}
use Rattle.dp_model.specs.Environments.{room_at}
use Rattle.dp_model.specs.Buffers.{IsNumber, bytes_of}
use Rattle.dp_model.specs.Packets.{Segment, Packet, headroom, tailroom, first_len, room_after, at_front, at_end, more_before, more_after, zeroed_before}
use Rattle.dp_model.specs.Packets.{zeroed_after, stored, loaded, Lies}
use Rattle.dp_model.specs.Stores.{Store, Has, HasSome, IsLive, Of, Becomes}
use Rattle.dp_model.specs.Laws.Lists.{set_itself}
use Rattle.dp_mbuf.specs.declared.header.Header.{Header}
use Rattle.dp_pool.specs.Pools.{PoolView}
use Rattle.dp_mbuf.specs.Objects.{header_at, specs_of, buffers_of, HasObject, HeaderSet, RoomWritten}
use Rattle.dp_mbuf.specs.Mbufs.{numbered, segment_at, slots_of, shown, Sound}
use Rattle.dp_mbuf.proofs.Edits.{bytes_whole}
use Rattle.dp_mbuf.proofs.Links.{segment_eq}
use Rattle.dp_mbuf.proofs.Frames.{object_of}
use Rattle.dp_mbuf.proofs.Live.{opened, first_of, last_at, settled, seen, moved, front_edited, end_edited, at_end_is, zeroed_is, tailroom_is}

pub rest_long : (xs : List ℕ) (p w : ℕ) → p + w ≤ length xs → w ≤ length (take (length xs - p) (drop p xs))
rest_long xs p w h =
    omega (arith, length-drop p xs, ap length (take_all (length xs - p) (drop p xs) (omega (arith, length-drop p xs))))

pub rest_take : (xs : List ℕ) (p w : ℕ) → take w (take (length xs - p) (drop p xs)) ≡ slice_range xs p (p + w)
rest_take xs p w =
    let e : w ≡ p + w - p = omega arith in
    rw (take_all (length xs - p) (drop p xs) (omega (arith, length-drop p xs))) (rw (← e))

-- a slice of a slice
slice_in : (xs : List ℕ) (o l p w : ℕ) → p + w ≤ l → slice_range (slice_range xs o (o + l)) p (p + w) ≡ slice_range xs (o + p) (o + p + w)
slice_in xs o l p w fits =
    let all : o + l - o ≡ p + (l - p) = omega (arith, fits) in
    let few : p + w - p ≡ w = omega arith in
    let same : o + p + w - (o + p) ≡ w = omega arith in
    rw (all, few, same, drop-take p (l - p) (drop o xs), drop-drop p o xs) (take-take w (l - p) (drop (o + p) xs) (omega (arith, fits)))

module _ (ps : List PoolView) (v : Store) (h : ℕ) (e : shown ps ≡ v) (sound : Sound ps) where
  -- ---- the part of a buffer that the first header has

  pub record FirstPart (x : Header) (k : Packet) : Type 0 where
    pub seg : Segment
    pub rest : Packet
    pub is : k ≡ seg ∷ rest
    pub mbuf : seg.mbuf ≡ numbered h
    pub header : segment_at (header_at ps) (numbered h) ≡ seg
    pub buffer : x.buffer ≡ seg.buffer
    pub offset : x.offset ≡ seg.offset
    pub len : x.len ≡ seg.len
    pub object : HasObject ps x.buffer
    pub fits : x.offset + x.len ≤ room_at (specs_of ps) x.buffer.pool
    pub small : room_at (specs_of ps) x.buffer.pool ≤ 4096
    pub slot : get_or (slots_of ps) h None ≡ Some (seg ∷ rest)
    pub number : IsNumber (specs_of ps) seg.buffer

  pub first_part : (x : Header) (k : Packet) → x ≡ header_at ps (numbered h) → Has v h k → FirstPart x k
  first_part x k ex has =
      let o = opened ps v h k e sound has in
      let f = first_of ps v h k o in
      let lies : Lies (specs_of ps) (segment_at (header_at ps) (numbered h)) = rw f.header f.lies in
      record {
        seg = f.seg;
        rest = f.rest;
        is = f.is;
        mbuf = f.mbuf;
        header = f.header;
        buffer = rw ex (ap (λ t. t.buffer) f.header);
        offset = rw ex (ap (λ t. t.offset) f.header);
        len = rw ex (ap (λ t. t.len) f.header);
        object = rw ex (object_of ps (header_at ps (numbered h)).buffer lies.number);
        fits = rw ex lies.fits;
        small = o.small x.buffer.pool;
        slot = rw f.is at o.slot;
        number = f.lies.number;
      }

  pub at_first : (x : Header) (mbuf w : ℕ) → x ≡ header_at ps (numbered h) → HasSome v h (λ k. mbuf + w ≤ first_len k) →
      (mbuf + w ≤ x.len) × HasObject ps x.buffer × (x.offset + x.len ≤ room_at (specs_of ps) x.buffer.pool) × (room_at (specs_of ps) x.buffer.pool ≤ 4096)
  at_first x mbuf w ex (k, has, fit) =
      let f = first_part x k ex has in
      (omega (arith, ap first_len f.is), f.object, f.fits, f.small)

  pub loaded_is : (x : Header) (mbuf w : ℕ) (bytes : List ℕ) → x ≡ header_at ps (numbered h) →
      bytes ≡ slice_range (bytes_of (buffers_of ps) x.buffer) x.offset (x.offset + x.len) →
      Of v h (λ k. spelled (slice_range bytes mbuf (mbuf + w)) ≡ loaded mbuf w k v.buffers)
  loaded_is x mbuf w bytes ex eb k has = by (first_part x k ex has)
    where
      by : FirstPart x k → spelled (slice_range bytes mbuf (mbuf + w)) ≡ loaded mbuf w k v.buffers
      by f = rw (eb, f.buffer, f.offset, f.len, f.is, ← e) refl

  -- the same, from the data room
  pub read_is : (x : Header) (at offset w : ℕ) (room : List ℕ) → x ≡ header_at ps (numbered h) → room ≡ bytes_of (buffers_of ps) x.buffer
      → at ≡ x.offset + offset → offset + w ≤ x.len → Of v h (λ k. spelled (slice_range room at (at + w)) ≡ loaded offset w k v.buffers)
  read_is x at offset w room ex er ea fits k has =
      ap spelled (ap (λ n. slice_range room n (n + w)) ea ∙ sym (slice_in room x.offset x.len offset w fits))
      ∙ loaded_is x offset w (slice_range room x.offset (x.offset + x.len)) ex (ap (λ r. slice_range r x.offset (x.offset + x.len)) er) k has

  pub stored_done : (ps' : List PoolView) (x : Header) (mbuf w n at : ℕ) (bytes : List ℕ) → x ≡ header_at ps (numbered h) → IsLive v h →
      at ≡ x.offset + mbuf → bytes ≡ big_endian w n → RoomWritten ps x.buffer at bytes ps' → Sound ps' × Becomes v (shown ps') h (λ k. k) (stored mbuf w n)
  stored_done ps' x mbuf w n at bytes ex live ea eb done =
      let d = settled ps' (slots_of ps) (bytes_whole ps ps' [] (slots_of ps) x.buffer at bytes sound done) in (
        d.0,
        λ k has. seen ps ps' v (stored mbuf w n k v.buffers) (slice_set v.slots h (Some k)) e done.specs
            (after k (first_part x k ex has))
            (rw (d.1, set_itself v.slots h (Some k) has) (ap (λ s. s.slots) e)),
      )
    where
      after : (k : Packet) → FirstPart x k → buffers_of ps' ≡ stored mbuf w n k v.buffers
      after k f = rw (done.buffers, f.buffer, ea, f.offset, eb, f.is, ← e) refl

  -- ---- bytes at the front

  pub before_first : (x : Header) (n : ℕ) → x ≡ header_at ps (numbered h) → HasSome v h (λ k. n ≤ headroom k) → n ≤ x.offset
  before_first x n ex (k, has, fit) =
      let f = first_part x k ex has in
      omega (arith, ap headroom f.is)

  pub prepended_done : (ps1 ps' : List PoolView) (x : Header) (n at : ℕ) → x ≡ header_at ps (numbered h) → IsLive v h → n ≤ x.offset → at ≡ x.offset - n →
      HeaderSet ps (numbered h) (moved (header_at ps (numbered h)) at (x.len + n)) ps1 → RoomWritten ps1 x.buffer at (replicate n 0) ps' →
      Sound ps' × Becomes v (shown ps') h (at_front (more_before n)) (zeroed_before n)
  prepended_done ps1 ps' x n at ex live fit ea done room =
      let all : (k : Packet) → Has v h k → Sound ps' × (slots_of ps' ≡ set (slots_of ps) h (Some (at_front (more_before n) k))) =
      λ k has. let f = first_part x k ex has in
      let r = front_edited ps ps1 h f.seg f.rest (more_before n) at (x.len + n) sound f.slot f.mbuf f.header done
      (segment_eq (more_before n f.seg) (record f.seg { offset = at; len = x.len + n }) refl refl (omega arith) (omega arith))
      (record { fits = omega (arith, f.fits, ap (λ y. room_at (specs_of ps) y.pool) f.buffer); number = f.number }) in
      let d = settled ps' (slots_of ps1) (bytes_whole ps1 ps' [] (slots_of ps1) x.buffer at (replicate n 0) r.0 room) in
      (d.0, rw (f.is, d.1) r.1) in (
        (all live.0 live.1).0,
        λ k has. seen ps ps' v (zeroed_before n k v.buffers) (slice_set v.slots h (Some (at_front (more_before n) k))) e (rw room.specs done.specs)
            (after k (first_part x k ex has)) (rw (all k has).1 (rw (← e))),
      )
    where
      after : (k : Packet) → FirstPart x k → buffers_of ps' ≡ zeroed_before n k v.buffers
      after k f = rw (room.buffers, done.buffers, f.buffer, ea, f.offset, f.is, ← e) refl

  -- ---- bytes at the end

  pub record LastPart (x : Header) (k : Packet) : Type 0 where
    pub before : Packet
    pub seg : Segment
    pub is : k ≡ before ++ seg ∷ []
    pub mbuf : (header_at ps (numbered h)).last ≡ seg.mbuf
    pub header : segment_at (header_at ps) seg.mbuf ≡ seg
    pub buffer : x.buffer ≡ seg.buffer
    pub offset : x.offset ≡ seg.offset
    pub len : x.len ≡ seg.len
    pub object : HasObject ps x.buffer
    pub fits : x.offset + x.len ≤ room_at (specs_of ps) x.buffer.pool
    pub small : room_at (specs_of ps) x.buffer.pool ≤ 4096
    pub slot : get_or (slots_of ps) h None ≡ Some (before ++ seg ∷ [])
    pub number : IsNumber (specs_of ps) seg.buffer

  pub last_part : (x : Header) (k : Packet) → x ≡ header_at ps (header_at ps (numbered h)).last → Has v h k → LastPart x k
  last_part x k ex has =
      let o = opened ps v h k e sound has in
      let l = last_at ps v h k o in
      let lies : Lies (specs_of ps) (segment_at (header_at ps) l.seg.mbuf) = rw l.header l.lies in
      record {
        before = l.before;
        seg = l.seg;
        is = l.is;
        mbuf = l.mbuf;
        header = l.header;
        buffer = rw (ex, l.mbuf) (ap (λ t. t.buffer) l.header);
        offset = rw (ex, l.mbuf) (ap (λ t. t.offset) l.header);
        len = rw (ex, l.mbuf) (ap (λ t. t.len) l.header);
        object = rw (ex, l.mbuf) (object_of ps (header_at ps l.seg.mbuf).buffer lies.number);
        fits = rw (ex, l.mbuf) lies.fits;
        small = o.small x.buffer.pool;
        slot = rw l.is at o.slot;
        number = l.lies.number;
      }

  pub after_last : (x : Header) (n : ℕ) → x ≡ header_at ps (header_at ps (numbered h)).last → (r : HasSome v h (λ k. n ≤ tailroom v.pools k)) →
      (x.offset + x.len + n ≤ room_at (specs_of ps) x.buffer.pool) × HasObject ps x.buffer × (room_at (specs_of ps) x.buffer.pool ≤ 4096)
  after_last x n ex (k, has, fit) =
      let l = last_part x k ex has in
      let t : tailroom v.pools k ≡ room_after (specs_of ps) l.seg = cc (ap (λ s. s.pools) e, tailroom_is l.seg (specs_of ps) l.before) in
      (omega (arith, t, l.fits, ap (λ y. room_at (specs_of ps) y.pool) l.buffer), l.object, l.small)

  pub appended_done : (ps1 ps' : List PoolView) (x : Header) (n at : ℕ) → x ≡ header_at ps (header_at ps (numbered h)).last → IsLive v h →
      x.offset + x.len + n ≤ room_at (specs_of ps) x.buffer.pool → at ≡ x.offset + x.len →
      HeaderSet ps (header_at ps (numbered h)).last (moved (header_at ps (header_at ps (numbered h)).last) x.offset (x.len + n)) ps1 →
      RoomWritten ps1 x.buffer at (replicate n 0) ps' → Sound ps' × Becomes v (shown ps') h (at_end (more_after n)) (zeroed_after n)
  appended_done ps1 ps' x n at ex live fit ea done room =
      let all : (k : Packet) → Has v h k → Sound ps' × (slots_of ps' ≡ set (slots_of ps) h (Some (at_end (more_after n) k))) =
      λ k has. let l = last_part x k ex has in
      let r = end_edited ps ps1 h l.before l.seg (more_after n) x.offset (x.len + n) sound l.slot l.header (rw l.mbuf at done)
      (segment_eq (more_after n l.seg) (record l.seg { offset = x.offset; len = x.len + n }) refl refl (omega arith) (omega arith))
      (record { fits = omega (arith, ap (λ y. room_at (specs_of ps) y.pool) l.buffer); number = l.number }) in
      let d = settled ps' (slots_of ps1) (bytes_whole ps1 ps' [] (slots_of ps1) x.buffer at (replicate n 0) r.0 room) in
      (d.0, rw (l.is, at_end_is l.seg (more_after n) l.before, d.1) r.1) in (
        (all live.0 live.1).0,
        λ k has. seen ps ps' v (zeroed_after n k v.buffers) (slice_set v.slots h (Some (at_end (more_after n) k))) e (rw room.specs done.specs)
            (after k (last_part x k ex has)) (rw (all k has).1 (rw (← e))),
      )
    where
      after : (k : Packet) → LastPart x k → buffers_of ps' ≡ zeroed_after n k v.buffers
      after k l = rw (room.buffers, done.buffers, l.buffer, ea, l.offset, l.len, l.is, zeroed_is l.seg n l.before v.buffers, ← e) refl

-- A packet that is one object, and what its header says.
use Rattle.std.proofs.Common.{◌≡◌, ℕ, ◌+◌, List, [], ◌∷◌, length, true, sym, ap, ◌∙◌, ◌≤◌, arith, append-nil}
use Rattle.std.specs.Prelude.{slice_range}
use Rattle.dp_model.specs.Environments.{room_at}
use Rattle.dp_model.specs.Buffers.{Number, same_number, bytes_of}
use Rattle.dp_model.specs.Packets.{Segment, Packet, refs, segment_bytes, packet_bytes}
use Rattle.dp_model.specs.Stores.{Store, Has, segments_of}
use Rattle.dp_model.specs.Laws.Stored.{same_number_refl, same_is}
use Rattle.dp_pool.specs.Pools.{PoolView}
use Rattle.dp_mbuf.specs.declared.header.Header.{Header}
use Rattle.dp_mbuf.specs.Objects.{header_at, specs_of, buffers_of, HasObject}
use Rattle.dp_mbuf.specs.Mbufs.{numbered, shown, Sound}
use Rattle.dp_mbuf.specs.Alone.{IsAlone}
use Rattle.dp_mbuf.proofs.Live.{opened}
use Rattle.dp_mbuf.proofs.Reading.{Part, part, links_of, many_of}

-- the header of one segment in its own buffer, with one reference
abbrev pub OneObject : Header → Number → Type 0
OneObject x n = (x.segs ≡ 1) × (x.refs ≡ 1) × (same_number x.buffer n ≡ true)

module _ (ps : List PoolView) (v : Store) (h : ℕ) (e : shown ps ≡ v) (sound : Sound ps) where
  abbrev first_header : Header
  first_header = header_at ps (numbered h)

  first_part : (k : Packet) → Has v h k → 1 ≤ length k → Part ps v k (numbered h) 0
  first_part k has some = part ps v h e sound k (numbered h) 0 has some (links_of ps v h e sound k has)

  pub object_is_one : (k : Packet) → Has v h k → IsAlone v k → OneObject first_header (numbered h)
  object_is_one [] has alone = absurd alone
  object_is_one (s ∷ []) has (own, sole) =
      let q = first_part (s ∷ []) has (omega arith) in
      let seg : q.seg ≡ s = cc q.is in
      let buffer : first_header.buffer ≡ numbered h = ap (λ t. t.buffer) (q.segment ∙ seg) ∙ own ∙ sym (ap (λ t. t.mbuf) (q.segment ∙ seg)) in
      let counted : first_header.refs ≡ refs (segments_of v) s.buffer =
      rw (buffer, seg) at q.refs in
      ((many_of ps v h e sound (s ∷ []) has).0, counted ∙ sole, rw buffer (same_number_refl (numbered h)))
  object_is_one (s ∷ t ∷ rest) has alone = absurd alone

  pub one_is_alone : (k : Packet) → Has v h k → OneObject first_header (numbered h) → IsAlone v k
  one_is_alone [] has (one, counted, own) = absurd (omega (arith, one, (many_of ps v h e sound [] has).0))
  one_is_alone (s ∷ []) has (one, counted, own) =
      let q = first_part (s ∷ []) has (omega arith) in
      let seg : q.seg ≡ s = cc q.is in
      let buffer : first_header.buffer ≡ numbered h = same_is first_header.buffer (numbered h) own in
      let mine : first_header.refs ≡ refs (segments_of v) s.buffer = rw (buffer, seg) at q.refs in
      (sym (ap (λ t. t.buffer) (q.segment ∙ seg)) ∙ buffer ∙ ap (λ t. t.mbuf) (q.segment ∙ seg), sym mine ∙ counted)
  one_is_alone (s ∷ t ∷ rest) has (one, counted, own) =
      absurd (omega (arith, one, (many_of ps v h e sound (s ∷ t ∷ rest) has).0))

  -- its segment lies in a data room
  pub one_there : (k : Packet) → Has v h k → HasObject ps first_header.buffer
      × (first_header.offset + first_header.len ≤ room_at (specs_of ps) first_header.buffer.pool) × (first_header.len ≤ 4096)
  one_there k has =
      let q = first_part k has (opened ps v h k e sound has).stands.some in (q.buffer, q.fits, q.small)

  -- it lies in its own object
  pub own_there : (k : Packet) → Has v h k → OneObject first_header (numbered h)
      → (first_header.offset + first_header.len ≤ room_at (specs_of ps) (numbered h).pool) × (first_header.len ≤ 4096)
  own_there k has (one, counted, own) =
      let (object, fits, small) = one_there k has in
      let room = ap (λ (b : Number). room_at (specs_of ps) b.pool) (same_is first_header.buffer (numbered h) own) in
      (omega (arith, fits, room), small)

  -- its bytes
  pub one_bytes : (k : Packet) (bytes : List ℕ) → Has v h k → OneObject first_header (numbered h)
      → bytes ≡ slice_range (bytes_of (buffers_of ps) (numbered h)) first_header.offset (first_header.offset + first_header.len)
      → bytes ≡ packet_bytes v.buffers k
  one_bytes [] bytes has (one, counted, own) is = absurd (omega (arith, one, (many_of ps v h e sound [] has).0))
  one_bytes (s ∷ []) bytes has (one, counted, own) is =
      let q = first_part (s ∷ []) has (omega arith) in
      let seg : q.seg ≡ s = cc q.is in
      is
      ∙ (ap (λ (b : Number). slice_range (bytes_of (buffers_of ps) b) first_header.offset (first_header.offset + first_header.len))
      (sym (same_is first_header.buffer (numbered h) own))
      ∙ ap (λ (t : Segment). segment_bytes (buffers_of ps) t) (q.segment ∙ seg)
      ∙ (ap (λ w. segment_bytes w.buffers s) e ∙ sym (append-nil (segment_bytes v.buffers s))))
  one_bytes (s ∷ t ∷ rest) bytes has (one, counted, own) is =
      absurd (omega (arith, one, (many_of ps v h e sound (s ∷ t ∷ rest) has).0))

-- A header and bytes after it, both written into one object, and a packet of one segment made so.
use Rattle.std.proofs.Common.{◌≡◌, ℕ, ◌+◌, ◌-◌, ◌/◌, ◌<◌, ◌≤◌, List, length, take, drop, max, Option, Some, None, refl, ◌∙◌, ap}
use Rattle.std.proofs.Common.{arith, set}
use Rattle.std.proofs.lemmas.List.{take_all}
use Rattle.dp_model.specs.Environments.{room_at}
use Rattle.dp_model.specs.Buffers.{Number}
use Rattle.dp_model.specs.Packets.{needed}
use Rattle.dp_model.specs.Stores.{Store, ReceivesInto}
use Rattle.dp_pool.specs.Pools.{PoolView, with_written}
use Rattle.dp_mbuf.specs.declared.header.Header.{Header}
use Rattle.dp_mbuf.specs.Headers.{header_bytes}
use Rattle.dp_mbuf.specs.Objects.{present, pool_in, header_at, specs_of, count_in, HasObject, ArePoolSlots, HeaderSet, RoomWritten, Taken}
use Rattle.dp_mbuf.specs.Objects.{BothWritten}
use Rattle.dp_mbuf.specs.Steps.{FilledBy, direct_header}
use Rattle.dp_mbuf.specs.Mbufs.{handle, shown, Sound}
use Rattle.dp_mbuf.proofs.PoolLemmas.{Small}
use Rattle.dp_mbuf.proofs.ObjectLemmas.{object_pool, object_long, front_set, room_written, room_is}
use Rattle.dp_mbuf.proofs.ObjectCalls.{are, again, InSlot, becomes}
use Rattle.dp_mbuf.proofs.HeaderFields.{header_done, header_set}
use Rattle.dp_mbuf.proofs.Frames.{number_small}
use Rattle.dp_mbuf.proofs.InHand.{object_after}
use Rattle.dp_mbuf.proofs.Taking.{fresh_header, small_header, taken_object}
use Rattle.dp_mbuf.proofs.Receiving.{Ready, ready, need_is, one_needed, receiving_start, receive_done}

pub both_done : (pools : List (Option PoolView)) (ps : List PoolView) → present pools ≡ ps → ArePoolSlots pools → (n : Number) (h : Header) (j i : ℕ)
    (header : List ℕ) (at : ℕ) (bytes : List ℕ) (p q : PoolView) → InSlot ps n j i p
    → q ≡ with_written (with_written p i 0 header) i (128 + at) bytes → header ≡ header_bytes h → Small header → Small bytes
    → at + length bytes ≤ room_at (specs_of ps) n.pool → ArePoolSlots (set pools j (Some q)) × BothWritten ps n h at bytes (present (set pools j (Some q)))
both_done pools ps e inv n h j i header at bytes p q s left is small_h small_b fit =
    let a = are pools ps e inv in
    let many = ap length is in
    let middle : List PoolView = set ps n.pool (with_written (pool_in ps n.pool) n.index 0 header) in
    let first : HeaderSet ps n h middle =
    header_done ps middle n (object_long ps n a s.object) header h is (front_set ps n 0 header a s.object small_h (omega (arith, many))) in
    let second = room_written middle n at bytes first.are (object_after ps middle n first.specs s.object) small_b (rw first.specs fit) in
    let w : RoomWritten middle n at bytes (set ps n.pool (with_written (with_written (pool_in ps n.pool) n.index 0 header) n.index (128 + at) bytes)) =
    rw (← again ps n.pool (with_written (pool_in ps n.pool) n.index 0 header) (λ r. with_written r n.index (128 + at) bytes)
    (object_pool ps n s.object)) second in
    becomes pools ps e inv (BothWritten ps n h at bytes) n j i p q (λ r k. with_written (with_written r k 0 header) k (128 + at) bytes) s left
    w.are (rw w.specs first.specs)
    (record { middle = middle; header = first; bytes_in = w })

-- ---- a packet of one segment at once

-- the same as a segment filled, and then made a packet's first and last
pub record Alone (ps : List PoolView) (n : Number) (bytes : List ℕ) (ps' : List PoolView) : Type 0 where
  pub before : List PoolView
  pub filled : FilledBy ps n bytes before
  pub first_set : HeaderSet before n (record (header_at before n) { segs = 1; last = n }) ps'

alone_is : (ps ps1 ps' : List PoolView) (n : Number) (bytes : List ℕ) → Taken ps n ps1 → Small bytes → 128 + length bytes ≤ room_at (specs_of ps1) n.pool →
    BothWritten ps1 n (fresh_header n 1 128 (length bytes)) 128 bytes ps' → Alone ps n bytes ps'
alone_is ps ps1 ps' n bytes t small fits b =
    let object = taken_object ps ps1 n t in
    let low = number_small ps1 n t.are object in
    let rooms = t.are.rooms n.pool (object_pool ps1 n object) in
    let size : room_at (specs_of ps1) n.pool ≤ 4096 = omega (arith, rooms.room, room_is ps1 n.pool) in
    let pool : n.pool < 65536 = omega (arith, t.are.few, low.1) in
    let x : Header = direct_header n 128 (length bytes) in
    let sm : Small (header_bytes x) = small_header x (omega arith) (omega arith) (omega arith) (omega (arith, fits, size)) (pool, low.0) (pool, low.0) (
      pool,
      low.0,
    ) in
    let mid : List PoolView = set ps1 n.pool (with_written (pool_in ps1 n.pool) n.index 0 (header_bytes x)) in
    let first : HeaderSet ps1 n x mid = header_set ps1 n x t.are object sm in
    let object' : HasObject mid n = object_after ps1 mid n first.specs object in
    let end : List PoolView = set mid n.pool (with_written (pool_in mid n.pool) n.index (128 + 128) bytes) in
    let second : RoomWritten mid n 128 bytes end = room_written mid n 128 bytes first.are object' small (rw first.specs fits) in
    let f : Header → Header = λ h. record h { segs = 1; last = n } in
    record {
      before = end;
      filled = record { first = ps1; second = mid; taken = t; header = first; bytes_in = second };
      first_set = record {
        are = b.bytes_in.are;
        specs = cc (b.bytes_in.specs, b.header.specs, first.specs, second.specs);
        zones = cc (b.bytes_in.zones, b.header.zones, first.zones, second.zones);
        buffers = cc (b.bytes_in.buffers, b.header.buffers, first.buffers, second.buffers);
        outs = λ m. cc (b.bytes_in.outs m, b.header.outs m, first.outs m, second.outs m);
        ins = λ k. cc (b.bytes_in.ins k, b.header.ins k, first.ins k, second.ins k);
        here = cc (b.bytes_in.headers n, b.header.here, ap f (second.headers n ∙ first.here));
        others = λ m d. cc (b.bytes_in.headers m, b.header.others m d, first.others m d, second.headers m);
      };
    }

module _ (ps : List PoolView) (v : Store) (pool : ℕ) (bytes : List ℕ) (e : shown ps ≡ v) (sound : Sound ps) (some : 129 ≤ room_at v.pools pool)
    (fits : 128 + length bytes ≤ room_at v.pools pool) where
  abbrev full : ℕ
  full = room_at v.pools pool - 128

  known : Ready ps v pool full
  known = ready ps v pool full (room_at (specs_of ps) pool) e sound some refl (rw (← e))

  one : 1 ≡ max 1 ((length bytes + (full - 1)) / full)
  one = one_needed full (length bytes) known.some (omega arith)

  need : 1 ≡ needed v.pools pool (length bytes)
  need = need_is v pool full (length bytes) 1 known.is one

  pub few_bytes : length bytes ≤ 4096
  few_bytes = omega (arith, known.few)

  pub received_none : (ps' : List PoolView) → count_in ps pool ≡ 0 → ps' ≡ ps → ReceivesInto v pool bytes (shown ps') None
  received_none ps' none same = (omega (arith, known.in_pool, need), rw same e)

  pub received_some : (ps1 ps' : List PoolView) (n : Number) (r : ℕ) → n.pool ≡ pool → Taken ps n ps1 → Small bytes →
      BothWritten ps1 n (fresh_header n 1 128 (length bytes)) 128 bytes ps' → r ≡ handle n → Sound ps' × ReceivesInto v pool bytes (shown ps') (Some r)
  received_some ps1 ps' n r ep t small b er =
      let k = known in
      let room : room_at (specs_of ps1) n.pool ≡ room_at v.pools pool = rw (t.specs, k.specs, ep) in
      let a = alone_is ps ps1 ps' n bytes t small (omega (arith, fits, room)) b in
      let filled : FilledBy ps n (take full bytes) a.before =
      rw (take_all full bytes (omega arith)) a.filled in
      let c = receiving_start v pool full bytes k.room k.some ps a.before n (drop full bytes) k.whole k.there ep k.specs k.buffers k.in_pool filled refl in
      receive_done c k one (omega (arith, need)) refl ps' r (omega (arith, rw ep at t.ins, k.in_pool)) er a.first_set

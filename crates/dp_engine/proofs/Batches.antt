-- What a pass copies: how frames lie in a batch, and that a batch of the largest size has room for them.
use Rattle.std.proofs.Common.{◌≡◌, ℕ, zero, suc, ◌+◌, ◌-◌, ◌*◌, ◌<◌, ◌≤◌, max, min, List, [], ◌∷◌, ◌++◌, length}
use Rattle.std.proofs.Common.{take, drop, drop-drop, get_or, map, Some, refl, sym, ◌∙◌, ap, arith}
use Rattle.std.proofs.Common.{append_assoc, append-nil, length-append, add-one, add-zero, zero-add}
use Rattle.std.specs.Prelude.{slice_get, slice_set, flat_map, true, ◌&&◌, nat_le}
use Rattle.std.specs.List.{AllByRecursion}
use Rattle.std.proofs.Math.Nat.{le-max_left, le-max_right, mul-le-mul_right}
use Rattle.std.proofs.Math.Seq.{take-append_seam, take-append-add}
use Rattle.std.proofs.lemmas.Bool.{leb-true, and_parts}
use Rattle.std.proofs.lemmas.List.{drop-set-lt, length-take, length-take-le, map-append, take-append-drop, take_more_set}
use Rattle.std.proofs.lemmas.Slice.{drop-append-drop}
use Rattle.std.proofs.lemmas.List.Concat.{flat_map-append}
use Rattle.std.proofs.lemmas.List.Sums.{sum_by-cons}
use Rattle.std.proofs.lemmas.Option.{same_Some, slice_get-get_or}
use Rattle.dp_model.specs.declared.env.PoolSpec.{PoolSpec}
use Rattle.dp_model.specs.Environments.{room_at, pool_fits}
use Rattle.dp_model.specs.Buffers.{Buffers, bytes_of, overwritten}
use Rattle.dp_model.specs.Packets.{Segment, Packet, Lies, segment_bytes, packet_bytes}
use Rattle.dp_model.specs.Machine.{Setting, World, live, segments_listed}
use Rattle.dp_model.specs.Runs.{between}
use Rattle.dp_model.specs.Safety.{IsPacket, IsAtRest}
use Rattle.dp_model.specs.Laws.Lists.{all_left, all_right, take_more}
use Rattle.dp_model.specs.Laws.Within.{parts}
use Rattle.dp_engine.specs.declared.batch.SentRecord.{SentRecord}
use Rattle.dp_engine.specs.declared.batch.BatchSize.{BatchSize}
use Rattle.dp_engine.specs.Batches.{Frame, frame_of, frames_from, frames_in, bytes_of_all, records_for, Holds, KeepsRest, all_buffers, widest}
use Rattle.dp_model.specs.Laws.Few.{live_few}

-- ---- what was written

-- the bytes up to the end of what was written
written_front : (bytes : List ℕ) (start : ℕ) (new : List ℕ) → start ≤ length bytes → take (start + length new) (overwritten bytes start new)
    ≡ take start bytes ++ new
written_front bytes start new le =
    let front = length-take-le start bytes le in
    ap (λ n. take (n + length new) (overwritten bytes start new)) (sym front)
    ∙ take-append-add (take start bytes) (new ++ drop (start + length new) bytes) (length new)
    ∙ ap (λ l. take start bytes ++ l) (take-append_seam new (drop (start + length new) bytes))

-- nothing is written
pub written_none : (bytes : List ℕ) (start : ℕ) → bytes ≡ overwritten bytes start []
written_none bytes start = sym (ap (λ n. take start bytes ++ drop n bytes) (add-zero start) ∙ take-append-drop start bytes)

-- one part is written after another
pub written_on : (bytes : List ℕ) (start : ℕ) (xs ys : List ℕ) → start + length xs + length ys ≤ length bytes
    → overwritten (overwritten bytes start xs) (start + length xs) ys ≡ overwritten bytes start (xs ++ ys)
written_on bytes start xs ys fits =
    let front = take start bytes in
    let rest = drop (start + length xs) bytes in
    let long : length (front ++ xs) ≡ start + length xs = length-append front xs
    ∙ ap (λ n. n + length xs) (length-take-le start bytes (omega (arith, fits))) in
    let head : take (start + length xs) (overwritten bytes start xs) ≡ front ++ xs = written_front bytes start xs (omega (arith, fits)) in
    let tail : drop (start + length xs + length ys) (overwritten bytes start xs) ≡ drop (start + length xs + length ys) bytes =
    ap (drop (start + length xs + length ys)) (sym (append_assoc front xs rest))
    ∙ drop-append-drop (start + length xs) bytes (front ++ xs) (start + length xs + length ys) (omega arith) long in
    let all : start + length xs + length ys ≡ start + length (xs ++ ys) = omega (arith, length-append xs ys) in
    ap (λ l. l ++ (ys ++ drop (start + length xs + length ys) (overwritten bytes start xs))) head
    ∙ ap (λ l. (front ++ xs) ++ (ys ++ l)) (tail ∙ ap (λ n. drop n bytes) all)
    ∙ append_assoc front xs (ys ++ drop (start + length (xs ++ ys)) bytes)
    ∙ ap (λ l. front ++ l) (sym (append_assoc xs ys (drop (start + length (xs ++ ys)) bytes)))

-- ---- one frame more

bytes_pushed : (frames : List Frame) (f : Frame) → bytes_of_all (frames ++ f ∷ []) ≡ bytes_of_all frames ++ f.1
bytes_pushed frames f = flat_map-append (λ (x : Frame). x.1) frames (f ∷ []) ∙ ap (λ l. bytes_of_all frames ++ l) (append-nil f.1)

abbrev record_for : ℕ → ℕ → Frame → SentRecord
record_for time offset f = record { time = time; offset = offset; port = f.0; length = length f.1 }

records_pushed : (time offset : ℕ) (frames : List Frame) (f : Frame)
    → records_for time offset (frames ++ f ∷ []) ≡ records_for time offset frames ++ record_for time (offset + length (bytes_of_all frames)) f ∷ []
records_pushed time offset [] f = ap (λ n. record_for time n f ∷ []) (sym (add-zero offset))
records_pushed time offset (g ∷ frames) f =
    ap (λ l. record_for time offset g ∷ l) (records_pushed time (offset + length g.1) frames f
    ∙ ap (λ n. records_for time (offset + length g.1) frames ++ record_for time n f ∷ []) (omega (arith, length-append g.1 (bytes_of_all frames))))

pub holds_more : (time : ℕ) (frames : List Frame) (f : Frame) (records : List SentRecord) (bytes : List ℕ) (held : BatchSize)
    → held.records < length records → held.bytes + length f.1 ≤ length bytes → Holds time frames records bytes held
    → Holds time (frames ++ f ∷ []) (slice_set records held.records (record_for time held.bytes f)) (overwritten bytes held.bytes f.1)
    (record { records = held.records + 1; bytes = held.bytes + length f.1 })
holds_more time frames f records bytes held room fits was = record {
  count = omega (arith, was.count, length-append frames (f ∷ []));
  size = omega (arith, was.size, ap length (bytes_pushed frames f), length-append (bytes_of_all frames) f.1);
  records_are = take_more_set records held.records (record_for time held.bytes f) room
      ∙ ap (λ l. l ++ record_for time held.bytes f ∷ []) was.records_are
      ∙ ap (λ n. records_for time 0 frames ++ record_for time n f ∷ []) (was.size ∙ sym (zero-add (length (bytes_of_all frames))))
      ∙ sym (records_pushed time 0 frames f);
  bytes_are = written_front bytes held.bytes f.1 (omega (arith, fits)) ∙ ap (λ l. l ++ f.1) was.bytes_are ∙ sym (bytes_pushed frames f);
}

-- nothing is held at first
pub holds_none : (time : ℕ) (records : List SentRecord) (bytes : List ℕ) → Holds time [] records bytes (record { records = 0; bytes = 0 })
holds_none time records bytes = record { count = refl; size = refl; records_are = refl; bytes_are = refl }

-- ---- what is not filled

-- what is the same from one place on is the same from a later one on
drop_on : {X : Type 0} (n m : ℕ) (xs ys : List X) → n ≤ m → drop n ys ≡ drop n xs → drop m ys ≡ drop m xs
drop_on {X = X} n m xs ys le same =
    let later : (l : List X) → drop m l ≡ drop (m - n) (drop n l) = λ l. ap (λ k. drop k l) (omega (arith, le)) ∙ sym (drop-drop (m - n) n l) in
    later ys ∙ ap (drop (m - n)) same ∙ sym (later xs)

drop_written : (bytes : List ℕ) (start : ℕ) (new : List ℕ) → start + length new ≤ length bytes
    → drop (start + length new) (overwritten bytes start new) ≡ drop (start + length new) bytes
drop_written bytes start new fits =
    let front = take start bytes in
    let long : length (front ++ new) ≡ start + length new = length-append front new
    ∙ ap (λ n. n + length new) (length-take-le start bytes (omega (arith, fits))) in
    ap (drop (start + length new)) (sym (append_assoc front new (drop (start + length new) bytes)))
    ∙ drop-append-drop (start + length new) bytes (front ++ new) (start + length new) (omega arith) long

pub keeps_more : (held : BatchSize) (records now : List SentRecord) (bytes there : List ℕ) (r : SentRecord) (new : List ℕ)
    → held.records < length now → held.bytes + length new ≤ length there → KeepsRest held records now bytes there
    → KeepsRest (record { records = held.records + 1; bytes = held.bytes + length new }) records (slice_set now held.records r) bytes
    (overwritten there held.bytes new)
keeps_more held records now bytes there r new room fits was = record {
  records_rest = drop-set-lt (held.records + 1) now held.records r (omega arith)
      ∙ drop_on held.records (held.records + 1) records now (omega arith) was.records_rest;
  bytes_rest = drop_written there held.bytes new fits ∙ drop_on held.bytes (held.bytes + length new) bytes there (omega arith) was.bytes_rest;
}

-- what a list keeps after those before it
pub keeps_on : (time : ℕ) (front own : List Frame) (held result : BatchSize) (records now last : List SentRecord) (bytes there end : List ℕ)
    → Holds time front now there held → Holds time (front ++ own) last end result → KeepsRest held records now bytes there → KeepsRest result now last there end
    → KeepsRest result records last bytes end
keeps_on time front own held result records now last bytes there end had has was is = record {
  records_rest = is.records_rest ∙ drop_on held.records result.records records now (omega (arith, had.count, has.count, length-append front own))
      was.records_rest;
  bytes_rest = is.bytes_rest ∙ drop_on held.bytes result.bytes bytes there (omega (
    arith,
    had.size,
    has.size,
    ap length (flat_map-append (λ (x : Frame). x.1) front own),
    length-append (bytes_of_all front) (bytes_of_all own),
  )) was.bytes_rest;
}

-- ---- the frames of lists, and their parts

pub frames_more : (port i : ℕ) (buffers : Buffers) (lists : List (List Packet)) (packets : List Packet) → slice_get lists i ≡ Some packets
    → frames_from port buffers (take (suc i) lists) ≡ frames_from port buffers (take i lists) ++ map (frame_of (port + i) buffers) packets
frames_more port i buffers [] packets e = cc
frames_more port zero buffers (l ∷ lists) packets e =
    append-nil (map (frame_of port buffers) l) ∙ ap (λ x. map (frame_of port buffers) x) (same_Some l packets e)
    ∙ ap (λ n. map (frame_of n buffers) packets) (sym (add-zero port))
frames_more port (suc i) buffers (l ∷ lists) packets e =
    ap (λ x. map (frame_of port buffers) l ++ x) (frames_more (port + 1) i buffers lists packets e
    ∙ ap (λ n. frames_from (port + 1) buffers (take i lists) ++ map (frame_of n buffers) packets) (one_on port i))
    ∙ sym (append_assoc (map (frame_of port buffers) l) (frames_from (port + 1) buffers (take i lists)) (map (frame_of (port + suc i) buffers) packets))
  where
    one_on : (port i : ℕ) → port + 1 + i ≡ port + suc i
    one_on port i = omega arith

-- the first lists, and the others
pub frames_front : (port i : ℕ) (buffers : Buffers) (lists : List (List Packet))
    → (rest : List Frame) × (frames_from port buffers lists ≡ frames_from port buffers (take i lists) ++ rest)
frames_front port zero buffers lists = (frames_from port buffers lists, refl)
frames_front port (suc i) buffers [] = ([], refl)
frames_front port (suc i) buffers (l ∷ lists) =
    let (rest, is) = frames_front (port + 1) i buffers lists in (
      rest,
      ap (λ x. map (frame_of port buffers) l ++ x) is
          ∙ sym (append_assoc (map (frame_of port buffers) l) (frames_from (port + 1) buffers (take i lists)) rest),
    )

-- so the frames of one list more have room where all have
pub record HasRoom (frames more : List Frame) (limit size : ℕ) : Type 0 where
  pub count : length frames + length more ≤ limit
  pub bytes : length (bytes_of_all frames) + length (bytes_of_all more) ≤ size

pub next_has_room : (i : ℕ) (buffers : Buffers) (lists : List (List Packet)) (packets : List Packet) (limit size : ℕ) → slice_get lists i ≡ Some packets
    → length (frames_from 0 buffers lists) ≤ limit → length (bytes_of_all (frames_from 0 buffers lists)) ≤ size
    → HasRoom (frames_from 0 buffers (take i lists)) (map (frame_of i buffers) packets) limit size
next_has_room i buffers lists packets limit size here few small =
    let (rest, is) = frames_front 0 (suc i) buffers lists in
    let front = frames_from 0 buffers (take i lists) in
    let own = map (frame_of i buffers) packets in
    let more : frames_from 0 buffers (take (suc i) lists) ≡ front ++ own = frames_more 0 i buffers lists packets here
    ∙ ap (λ n. front ++ map (frame_of n buffers) packets) (omega arith) in
    let all : frames_from 0 buffers lists ≡ (front ++ own) ++ rest = is ∙ ap (λ l. l ++ rest) more in
    let spelled : bytes_of_all (frames_from 0 buffers lists) ≡ (bytes_of_all front ++ bytes_of_all own) ++ bytes_of_all rest =
    ap bytes_of_all all ∙ flat_map-append (λ (x : Frame). x.1) (front ++ own) rest
    ∙ ap (λ l. l ++ bytes_of_all rest) (flat_map-append (λ (x : Frame). x.1) front own) in
    record {
      count = omega (arith, few, ap length all, length-append (front ++ own) rest, length-append front own);
      bytes = omega (
        arith,
        small,
        ap length spelled,
        length-append (bytes_of_all front ++ bytes_of_all own) (bytes_of_all rest),
        length-append (bytes_of_all front) (bytes_of_all own),
      );
    }

-- ---- the largest batch

buffers_more : (pools : List PoolSpec) (i : ℕ) (p : PoolSpec) → slice_get pools i ≡ Some p
    → all_buffers (take (suc i) pools) ≡ all_buffers (take i pools) + p.count
buffers_more [] i p e = cc
buffers_more (q ∷ pools) zero p e =
    let same : q.count ≡ p.count = ap (λ (x : PoolSpec). x.count) (same_Some q p e) in omega (arith, same, sum_by-cons (λ (x : PoolSpec). x.count) q [])
buffers_more (q ∷ pools) (suc i) p e =
    omega (
      arith,
      buffers_more pools i p e,
      sum_by-cons (λ (x : PoolSpec). x.count) q (take (suc i) pools),
      sum_by-cons (λ (x : PoolSpec). x.count) q (take i pools),
    )

widest_more : (pools : List PoolSpec) (i : ℕ) (p : PoolSpec) → slice_get pools i ≡ Some p → widest (take (suc i) pools) ≡ max (widest (take i pools)) p.room
widest_more [] i p e = cc
widest_more (q ∷ pools) zero p e =
    let same : q.room ≡ p.room = ap (λ (x : PoolSpec). x.room) (same_Some q p e) in omega (arith, same)
widest_more (q ∷ pools) (suc i) p e = let more = widest_more pools i p e in omega (arith, more)

-- the pool that a loop has come to
abbrev pub no_pool : PoolSpec
no_pool = record { count = 0; cache = 0; room = 0 }

pub buffers_next : (pools : List PoolSpec) (i : ℕ) → i < length pools
    → all_buffers (take (i + 1) pools) ≡ all_buffers (take i pools) + (get_or pools i no_pool).count
buffers_next pools i less = ap (λ n. all_buffers (take n pools)) (add-one i) ∙ buffers_more pools i _ (slice_get-get_or pools i no_pool less)

pub widest_next : (pools : List PoolSpec) (i : ℕ) → i < length pools → widest (take (i + 1) pools) ≡ max (widest (take i pools)) (get_or pools i no_pool).room
widest_next pools i less = ap (λ n. widest (take n pools)) (add-one i) ∙ widest_more pools i _ (slice_get-get_or pools i no_pool less)

room_small : (pools : List PoolSpec) (k : ℕ) → room_at pools k ≤ widest pools
room_small [] k = omega arith
room_small (p ∷ pools) zero = le-max_left p.room (widest pools)
room_small (p ∷ pools) (suc k) = let more = room_small pools k in omega (arith, more, le-max_right p.room (widest pools))

-- no data room is wider than permitted
pub widest_small : (pools : List PoolSpec) → AllByRecursion (λ (p : PoolSpec). pool_fits p ≡ true) pools → widest pools ≤ 4096
widest_small [] all = omega arith
widest_small (p ∷ pools) all =
    let (others, room) = and_parts (nat_le 1 p.count && nat_le p.count 65535 && nat_le p.cache 512 && nat_le (3 * p.cache) (2 * p.count))
    (nat_le p.room 4096) all.0 in
    omega (arith, leb-true p.room 4096 room, widest_small pools all.1)

-- a segment shows at most its length
segment_short : (buffers : Buffers) (s : Segment) → length (segment_bytes buffers s) ≤ s.len
segment_short buffers s =
    let many : length (segment_bytes buffers s) ≡ min (s.offset + s.len - s.offset) (length (drop s.offset (bytes_of buffers s.buffer))) =
    length-take (s.offset + s.len - s.offset) (drop s.offset (bytes_of buffers s.buffer)) in
    omega (arith, many)

-- no segment is longer than that
abbrev AreAtMost : ℕ → List Segment → Type 0
AreAtMost room segments = AllByRecursion (λ (s : Segment). s.len ≤ room) segments

lies_small : (pools : List PoolSpec) (segments : List Segment) → AllByRecursion (Lies pools) segments → AreAtMost (widest pools) segments
lies_small pools [] all = tt
lies_small pools (s ∷ segments) all =
    (omega (arith, all.0.fits, room_small pools s.buffer.pool), lies_small pools segments all.1)

packet_short : (room : ℕ) (buffers : Buffers) (k : Packet) → AreAtMost room k → length (packet_bytes buffers k) ≤ length k * room
packet_short room buffers [] all = omega arith
packet_short room buffers (s ∷ k) all =
    let rest = packet_short room buffers k all.1 in
    let most : suc (length k) * room ≡ length k * room + room = omega arith in
    omega (arith, length-append (segment_bytes buffers s) (packet_bytes buffers k), segment_short buffers s, all.0, rest, most)

-- at least as many segments as frames, and no more bytes than they have room for
record FitIn (room : ℕ) (frames : List Frame) (segments : List Segment) : Type 0 where
  few : length frames ≤ length segments
  small : length (bytes_of_all frames) ≤ length segments * room

joined_fit : (room : ℕ) (xs ys : List Frame) (ss ts : List Segment) → FitIn room xs ss → FitIn room ys ts → FitIn room (xs ++ ys) (ss ++ ts)
joined_fit room xs ys ss ts a b =
    let more : (length ss + length ts) * room ≡ length ss * room + length ts * room = omega arith in
    let many : length (ss ++ ts) * room ≡ (length ss + length ts) * room = ap (λ n. n * room) (length-append ss ts) in
    record {
      few = omega (arith, a.few, b.few, length-append xs ys, length-append ss ts);
      small = omega (
        arith,
        a.small,
        b.small,
        ap length (flat_map-append (λ (x : Frame). x.1) xs ys),
        length-append (bytes_of_all xs) (bytes_of_all ys),
        more,
        many,
      );
    }

list_fits : (room port : ℕ) (buffers : Buffers) (packets : List Packet) → AllByRecursion IsPacket packets → AreAtMost room (flat_map (λ k. k) packets)
    → FitIn room (map (frame_of port buffers) packets) (flat_map (λ k. k) packets)
list_fits room port buffers [] are all = record { few = omega arith; small = omega arith }
list_fits room port buffers (k ∷ packets) are all =
    let own = all_left (λ (s : Segment). s.len ≤ room) k (flat_map (λ k. k) packets) all in
    joined_fit room (frame_of port buffers k ∷ []) (map (frame_of port buffers) packets) k (flat_map (λ k. k) packets) (record {
      few = are.0.0;
      small = omega (arith, ap length (append-nil (packet_bytes buffers k)), packet_short room buffers k own);
    }) (list_fits room port buffers packets are.1 (all_right (λ (s : Segment). s.len ≤ room) k (flat_map (λ k. k) packets) all))

lists_fit : (room port : ℕ) (buffers : Buffers) (lists : List (List Packet)) → AllByRecursion (AllByRecursion IsPacket) lists
    → AreAtMost room (segments_listed lists) → FitIn room (frames_from port buffers lists) (segments_listed lists)
lists_fit room port buffers [] are all = record { few = omega arith; small = omega arith }
lists_fit room port buffers (l ∷ lists) are all =
    joined_fit room (map (frame_of port buffers) l) (frames_from (port + 1) buffers lists) (flat_map (λ k. k) l) (segments_listed lists)
    (list_fits room port buffers l are.0 (all_left (λ (s : Segment). s.len ≤ room) (flat_map (λ k. k) l) (segments_listed lists) all))
    (lists_fit room (port + 1) buffers lists are.1 (all_right (λ (s : Segment). s.len ≤ room) (flat_map (λ k. k) l) (segments_listed lists) all))

-- what waits in the transmit lists of a world at rest fits in the largest batch
pub record FitsIn (c : Setting) (w : World) : Type 0 where
  pub few : length (frames_in w) ≤ all_buffers c.env.pools
  pub small : length (bytes_of_all (frames_in w)) ≤ all_buffers c.env.pools * widest c.env.pools

pub rest_fits : (c : Setting) (w : World) → IsAtRest c w → FitsIn c w
rest_fits c w rest =
    let room = widest c.env.pools in
    let lie = parts (Lies c.env.pools) (between w) rest.ready.within.lie in
    let sent = segments_listed w.outboxes in
    let fit = lists_fit room 0 w.buffers w.outboxes rest.packets.outboxes (lies_small c.env.pools sent lie.outboxes) in
    let few : length sent ≤ all_buffers c.env.pools = omega (
      arith,
      live_few c.env.pools (live (between w)) rest.owned,
      length-append (segments_listed w.rings) sent,
    ) in
    record {
      few = omega (arith, fit.few, few);
      small = omega (arith, fit.small, mul-le-mul_right room few);
    }

-- ---- the packets of a transmit list, one by one

pub frames_next : (port : ℕ) (buffers : Buffers) (packets : List Packet) (i : ℕ) (k : Packet) → slice_get packets i ≡ Some k
    → map (frame_of port buffers) (take (i + 1) packets) ≡ map (frame_of port buffers) (take i packets) ++ frame_of port buffers k ∷ []
frames_next port buffers packets i k here =
    ap (λ n. map (frame_of port buffers) (take n packets)) (add-one i) ∙ ap (map (frame_of port buffers)) (take_more packets i k here)
    ∙ map-append (frame_of port buffers) (take i packets) (k ∷ [])

-- those before one and it together are no more than all
pub packet_has_room : (port : ℕ) (buffers : Buffers) (packets : List Packet) (i : ℕ) (k : Packet) → slice_get packets i ≡ Some k
    → length (bytes_of_all (map (frame_of port buffers) (take i packets))) + length (packet_bytes buffers k)
    ≤ length (bytes_of_all (map (frame_of port buffers) packets))
packet_has_room port buffers [] i k e = cc
packet_has_room port buffers (j ∷ packets) zero k e =
    omega (
      arith,
      ap (λ x. length (packet_bytes buffers x)) (same_Some j k e),
      length-append (packet_bytes buffers j) (bytes_of_all (map (frame_of port buffers) packets)),
    )
packet_has_room port buffers (j ∷ packets) (suc i) k e =
    omega (
      arith,
      packet_has_room port buffers packets i k e,
      length-append (packet_bytes buffers j) (bytes_of_all (map (frame_of port buffers) packets)),
      length-append (packet_bytes buffers j) (bytes_of_all (map (frame_of port buffers) (take i packets))),
    )

pub bytes_long : (frames : List Frame) (f : Frame) → length (bytes_of_all (frames ++ f ∷ [])) ≡ length (bytes_of_all frames) + length f.1
bytes_long frames f = ap length (bytes_pushed frames f) ∙ length-append (bytes_of_all frames) f.1

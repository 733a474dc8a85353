-- Receiving a record, segment by segment.
use Rattle.std.proofs.Math.Nat.{div-lt_iff_lt-mul}
use Rattle.std.proofs.Common.{◌≡◌, ℕ, zero, suc, ◌+◌, ◌-◌, ◌/◌, ◌<◌, ◌≤◌, true, false, List, [], ◌∷◌, ◌++◌, length, take, drop, Option, Some, None}
use Rattle.std.proofs.Common.{refl, sym, ◌∙◌, ap, arith, ⊎_elim, set}
use Rattle.std.specs.Prelude.{slice_set, min, max}
use Rattle.std.specs.List.{AllByRecursion, list_any}
use Rattle.std.proofs.lemmas.Bool.{cases_lt, or_parts}
use Rattle.std.proofs.lemmas.List.{length-append, length-take, length-drop, append_assoc, append-nil, take-append-drop, nil_from_length, get_or_past}
use Rattle.std.proofs.lemmas.Option.{slice_get-get_or}
use Rattle.dp_model.specs.Environments.{room_at, count_at}
use Rattle.dp_model.specs.Buffers.{Number, same_number, IsNumber, AreDistinct, Buffers, AreBytes, bytes_of, written}
use Rattle.dp_model.specs.Packets.{Segment, Packet, refs, direct, is_free, available, needed, received, packet_bytes, IsFresh}
use Rattle.dp_model.specs.Machine.{segments_held}
use Rattle.dp_model.specs.Stores.{Store, segments_of, ReceivesInto}
use Rattle.dp_model.specs.Laws.Stored.{bytes_other}
use Rattle.dp_model.specs.Laws.References.{refs-append}
use Rattle.dp_mbuf.specs.declared.header.Header.{Header}
use Rattle.dp_pool.specs.Pools.{PoolView, object_in}
use Rattle.dp_mbuf.specs.Objects.{header_at, count_in, pool_in, no_pool, specs_of, buffers_of, HasObject, ArePools, HeaderSet}
use Rattle.dp_mbuf.specs.Steps.{Linkage, FilledBy, direct_header}
use Rattle.dp_mbuf.specs.Mbufs.{handle, segment_at, shown, mbufs, Linked, last_mbuf, Whole, Sound}
use Rattle.dp_mbuf.proofs.PoolLemmas.{Small, small_drop}
use Rattle.dp_mbuf.proofs.ObjectLemmas.{same_or, bytes_are, room_is, object_pool, length_specs, count_is}
use Rattle.dp_mbuf.proofs.Counting.{mbufs-append, mbufs-cons, mbufs_first}
use Rattle.dp_mbuf.proofs.Links.{alike, first_in, linked_kept}
use Rattle.dp_mbuf.proofs.Frames.{object_of, number_of, number_small}
use Rattle.dp_mbuf.proofs.Edits.{all_at, first_set, bytes_whole}
use Rattle.dp_mbuf.proofs.InHand.{nothing_at, turned}
use Rattle.dp_mbuf.proofs.Taking.{grown_direct, free_from}
use Rattle.dp_mbuf.proofs.Chaining.{joined, last_of_links}
use Rattle.dp_mbuf.proofs.Live.{rooms_small, settled, store_eq, last_mbuf_is}
use Rattle.dp_mbuf.proofs.Allocs.{free_in}
use Rattle.dp_mbuf.proofs.Cloning.{reordered, without}
use Rattle.dp_mbuf.proofs.Filling.{filled, left, left_more, filled_push, length_filled, Enough, needed_enough, left_end, received_is, bytes_stay, bytes_new}
use Rattle.dp_mbuf.proofs.Filling.{packet_append}
use Rattle.dp_model.specs.Laws.Lists.{all_join, all_left}

-- ---- one segment filled

pub record GrownFill (ps ps' : List PoolView) (hand : Packet) (slots : List (Option Packet)) (n : Number) (chunk : List ℕ) : Type 0 where
  pub whole : Whole ps' (direct n 128 (length chunk) ∷ hand) slots
  pub segment : segment_at (header_at ps') n ≡ direct n 128 (length chunk)
  pub others : (m : Number) → same_number n m ≡ false → Linkage (header_at ps' m) (header_at ps m)
  pub nothing : mbufs (hand ++ segments_held slots) n + refs (hand ++ segments_held slots) n ≡ 0
  pub specs : specs_of ps' ≡ specs_of ps
  pub buffers : buffers_of ps' ≡ written (buffers_of ps) n 128 chunk
  pub ins : count_in ps' n.pool + 1 ≡ count_in ps n.pool
  pub number : IsNumber (specs_of ps) n
  pub free : is_free (segments_held slots) n ≡ true

pub grown_fill : (ps ps' : List PoolView) (hand : Packet) (slots : List (Option Packet)) (n : Number) (chunk : List ℕ) → Whole ps hand slots →
    FilledBy ps n chunk ps' → 128 + length chunk ≤ room_at (specs_of ps) n.pool → GrownFill ps ps' hand slots n chunk
grown_fill ps ps' hand slots n chunk w f fits =
    let t = f.taken in
    let number = number_of ps n t.object in
    let no = nothing_at ps hand slots n w number t.was in
    let at_n : header_at ps' n ≡ direct_header n 128 (length chunk) = f.bytes_in.headers n ∙ f.header.here in
    record {
      whole = bytes_whole f.second ps' (direct n 128 (length chunk) ∷ hand) slots n 128 chunk
          (grown_direct ps f.first f.second hand slots n (direct_header n 128 (length chunk)) 128 (length chunk) w t f.header refl refl fits)
          f.bytes_in;
      segment = rw at_n;
      others = λ m d. (alike (header_at ps' m) (header_at ps m) (rw (f.bytes_in.headers m, f.header.others m d, t.headers m))).link;
      nothing = no;
      specs = cc (f.bytes_in.specs, f.header.specs, t.specs);
      buffers = rw (f.bytes_in.buffers, f.header.buffers, t.buffers);
      ins = omega (arith, f.bytes_in.ins n.pool, f.header.ins n.pool, t.ins);
      number = number;
      free = free_from (segments_held slots) n (omega (arith, no, mbufs-append hand (segments_held slots) n, refs-append hand (segments_held slots) n));
    }

-- ---- buffers of pools

pub buffer_long : (ps : List PoolView) (n : Number) → ArePools ps → IsNumber (specs_of ps) n → length (bytes_of (buffers_of ps) n)
    ≡ room_at (specs_of ps) n.pool
buffer_long ps n are number =
    let object = object_of ps n number in
    let r = are.rooms n.pool (object_pool ps n object) in
    rw (bytes_are ps n, length-drop) (omega (arith, r.pool.sizes n.index object, room_is ps n.pool))

pub record Receiving (ps : List PoolView) (v : Store) (pool full : ℕ) (bytes : List ℕ) (first last : Number) (rest : List ℕ) (i : ℕ) : Type 0 where
  pub numbers : List Number
  pub count : length numbers ≡ i
  pub some : 1 ≤ i
  pub whole : Whole ps (filled full numbers (length bytes)) v.slots
  pub links : Linked (header_at ps) first (filled full numbers (length bytes))
  pub last_is : last ≡ last_mbuf first (filled full numbers (length bytes))
  pub each : AllByRecursion (IsFresh v.pools (segments_of v) pool) numbers
  pub ins : count_in ps pool + i ≡ available v.pools (segments_of v) pool
  pub specs : specs_of ps ≡ v.pools
  pub there : pool < length ps
  pub spells : packet_bytes (buffers_of ps) (filled full numbers (length bytes)) ++ rest ≡ bytes
  pub rest_long : length rest ≡ left full (length bytes) i
  pub others : (b : Number) → list_any (same_number b) numbers ≡ false → bytes_of (buffers_of ps) b ≡ bytes_of v.buffers b

any_push : (b : Number) (numbers : List Number) (n : Number) → list_any (same_number b) (numbers ++ n ∷ []) ≡ false →
    (list_any (same_number b) numbers ≡ false) × (same_number b n ≡ false)
any_push b [] n e = (refl, (or_parts (same_number b n) _ e).0)
any_push b (m ∷ numbers) n e =
    let h = or_parts (same_number b m) _ e in
    let t = any_push b numbers n h.1 in
    (rw h.0 t.0, t.1)

-- the bytes with one more segment after them
spelled_more : (buffers buffers' : Buffers) (made : Packet) (n : Number) (full : ℕ) (rest bytes : List ℕ) →
    buffers' ≡ written buffers n 128 (take full rest) → refs made n ≡ 0 → 0 < length (bytes_of buffers n) →
    128 + length (take full rest) ≤ length (bytes_of buffers n) → packet_bytes buffers made ++ rest ≡ bytes →
    packet_bytes buffers' (made ++ direct n 128 (length (take full rest)) ∷ []) ++ drop full rest ≡ bytes
spelled_more buffers buffers' made n full rest bytes eb none some fits so =
    let chunk : List ℕ = take full rest in
    let s : Segment = direct n 128 (length chunk) in
    let b : Buffers = written buffers n 128 chunk in
    rw (
      eb,
      packet_append b made (s ∷ []),
      bytes_stay buffers n 128 chunk made none,
      bytes_new buffers n 128 chunk some fits,
      append-nil chunk,
      append_assoc,
      take-append-drop,
    ) so

module _ (v : Store) (pool full : ℕ) (bytes : List ℕ) (room : 128 + full ≡ room_at v.pools pool) (positive : 1 ≤ full) where
  abbrev total : ℕ
  total = length bytes

  pub receiving_start : (ps ps' : List PoolView) (n : Number) (rest : List ℕ) → Whole ps [] v.slots → pool < length ps → n.pool ≡ pool →
      specs_of ps ≡ v.pools → buffers_of ps ≡ v.buffers → count_in ps pool ≡ available v.pools (segments_of v) pool → FilledBy ps n (take full bytes) ps' →
      rest ≡ drop full bytes → Receiving ps' v pool full bytes n n rest 1
  receiving_start ps ps' n rest w there ep es eb ea f er =
      let l = length-take full bytes in
      let room' : 128 + full ≡ room_at (specs_of ps) n.pool = rw (es, ep) room in
      let g = grown_fill ps ps' [] v.slots n (take full bytes) w f (omega (arith, l, room')) in
      let long = buffer_long ps n w.are g.number in
      record {
        numbers = n ∷ [];
        count = refl;
        some = omega arith;
        whole = rw (← l) g.whole;
        links = rw (← l) (g.segment, tt);
        last_is = refl;
        each = (record { of_pool = ep; exists = rw es at g.number; free = g.free }, tt);
        ins = omega (arith, rw ep at g.ins);
        specs = rw g.specs es;
        there = omega (arith, ap length g.specs, length_specs ps, length_specs ps');
        spells = rw (← l, er) (spelled_more (buffers_of ps) (buffers_of ps') [] n full bytes bytes g.buffers refl (omega arith) (omega arith) refl);
        rest_long = rw er (length-drop full bytes);
        others = λ b e. rw (g.buffers, bytes_other (buffers_of ps) n b _ (turned b n (any_push b [] n e).1), eb);
      }

  module _ (ps : List PoolView) (first last : Number) (rest : List ℕ) (i : ℕ) (c : Receiving ps v pool full bytes first last rest i) where
    abbrev made : Packet
    made = filled full c.numbers total

    many : length (filled full c.numbers total) ≡ i
    many = rw length_filled c.count

    room_here : (n : Number) → n.pool ≡ pool → 128 + full ≡ room_at (specs_of ps) n.pool
    room_here n ep = rw (c.specs, ep) room

    fill_at : (ps1 : List PoolView) (n : Number) → n.pool ≡ pool → FilledBy ps n (take full rest) ps1 →
        GrownFill ps ps1 (filled full c.numbers total) v.slots n (take full rest)
    fill_at ps1 n ep f =
        grown_fill ps ps1 made v.slots n (take full rest) c.whole f (omega (arith, length-take full rest, room_here n ep))

    pub fill_can : (need : ℕ) → i < need → need ≤ available v.pools (segments_of v) pool →
        (pool < length ps) × (1 ≤ count_in ps pool) × (128 + full ≤ room_at (specs_of ps) pool) × ArePools ps
    fill_can need b enough =
        (c.there, omega arith, rw c.specs (omega arith), c.whole.are)

    pub fill_last : (ps1 : List PoolView) (n : Number) → n.pool ≡ pool → FilledBy ps n (take full rest) ps1 → HasObject ps1 last
    fill_last ps1 n ep f =
        let g = fill_at ps1 n ep f in
        let in_made = last_of_links (header_at ps) first made (omega (arith, many)) c.links in
        rw c.last_is
        (object_of ps1 (last_mbuf first made) (all_at (IsNumber (specs_of ps1)) (made
        ++ segments_held v.slots) (last_mbuf first made) g.whole.counted.numbers.1
        (omega (arith, in_made, mbufs-append made (segments_held v.slots) (last_mbuf first made)))))

    pub fill_done : (ps1 ps2 : List PoolView) (n : Number) (rest' : List ℕ) → n.pool ≡ pool → FilledBy ps n (take full rest) ps1 →
        HeaderSet ps1 last (record (header_at ps1 last) { next = n }) ps2 → rest' ≡ drop full rest → Receiving ps2 v pool full bytes first n rest' (i + 1)
    fill_done ps1 ps2 n rest' ep f done er =
        let g = fill_at ps1 n ep f in
        let l = length-take full rest in
        let long = buffer_long ps n c.whole.are g.number in
        let room' = room_here n ep in
        let chunk : List ℕ = take full rest in
        let s : Segment = direct n 128 (length chunk) in
        let push : filled full (c.numbers ++ n ∷ []) total ≡ made ++ s ∷ [] = rw (filled_push, c.count, ← c.rest_long, l) in
        let whole1 = reordered ps1 s made v.slots g.whole in
        let links1 : Linked (header_at ps1) first made =
        linked_kept (header_at ps) (header_at ps1) first made (λ m q. g.others m
        (without made (segments_held v.slots) n m (omega arith) (omega arith))) c.links in
        let j = joined ps1 ps2 made (s ∷ []) v.slots first n whole1 (omega (arith, many)) links1 (g.segment, tt) (rw c.last_is at done) in
        record {
          numbers = c.numbers ++ n ∷ [];
          count = omega (arith, length-append c.numbers (n ∷ []));
          some = omega arith;
          whole = rw push j.0;
          links = rw push j.1;
          last_is = rw (push, last_mbuf_is);
          each = all_join (IsFresh v.pools (segments_of v) pool) c.numbers (n ∷ []) c.each
              (record { of_pool = ep; exists = rw c.specs at g.number; free = g.free }, tt);
          ins = omega (arith, rw ep at g.ins, done.ins pool);
          specs = rw (done.specs, g.specs) c.specs;
          there = omega (arith, ap length (rw g.specs at done.specs), length_specs ps, length_specs ps2);
          spells = rw (push, er) (spelled_more (buffers_of ps) (buffers_of ps2) made n full rest bytes (rw g.buffers at done.buffers)
              (omega (arith, refs-append made (segments_held v.slots) n)) (omega arith) (omega arith) c.spells);
          rest_long = rw (er, length-drop, c.rest_long, left_more);
          others = λ b e. let d = any_push b c.numbers n e in
              rw (done.buffers, g.buffers, bytes_other (buffers_of ps) n b _ (turned b n d.1)) (c.others b d.0);
        }

-- ---- all segments

apart_filled : (n : Number) (full : ℕ) (numbers : List Number) (total : ℕ) → mbufs (filled full numbers total) n ≡ 0 →
    AllByRecursion (λ m. same_number n m ≡ false) numbers
apart_filled n full [] total z = tt
apart_filled n full (m ∷ numbers) total z = (
  ⊎_elim
      (λ e. absurd (omega (arith, rw e at z, mbufs_first (direct m 128 (min full total)) (filled full numbers (total - full)))))
      (λ d. d)
      (same_or n m),
  apart_filled n full numbers (total - full) (omega (arith, z, mbufs-cons (direct m 128 (min full total)) (filled full numbers (total - full)) n)),
)

distinct_filled : (full : ℕ) (numbers : List Number) (total : ℕ) → ((m : Number) → mbufs (filled full numbers total) m ≤ 1) → AreDistinct numbers
distinct_filled full [] total once = tt
distinct_filled full (n ∷ numbers) total once =
    let s : Segment = direct n 128 (min full total) in (
      apart_filled n full numbers (total - full) (omega (arith, once n, mbufs_first s (filled full numbers (total - full)))),
      distinct_filled full numbers (total - full) (λ m. omega (arith, once m, mbufs-cons s (filled full numbers (total - full)) m)),
    )

no_object : (ps : List PoolView) (b : Number) → count_at (specs_of ps) b.pool ≤ b.index → length (bytes_of (buffers_of ps) b) ≡ 0
no_object ps b past =
    rw (bytes_are ps b, get_or_past (pool_in ps b.pool).objects b.index [] (omega (arith, count_is ps b.pool)))

lengths_same : (ps ps' : List PoolView) (b : Number) → ArePools ps → ArePools ps' → specs_of ps' ≡ specs_of ps → length (bytes_of (buffers_of ps') b)
    ≡ length (bytes_of (buffers_of ps) b)
lengths_same ps ps' b are are' e = ⊎_elim
    (λ h. rw (buffer_long ps' b are' (rw e h), e, buffer_long ps b are h))
    (λ past. rw (no_object ps' b (rw e past), no_object ps b past))
    (cases_lt b.index (count_at (specs_of ps) b.pool))

all_small : (xs : List ℕ) → Small xs → AllByRecursion (λ x. x < 256) xs
all_small [] s = tt
all_small (x ∷ xs) s = (s 0, all_small xs (λ k. s (suc k)))

pub are_bytes : (ps : List PoolView) → ArePools ps → AreBytes (buffers_of ps)
are_bytes ps are b =
    rw (bytes_are ps b)
    (all_small (drop 128 (object_in (pool_in ps b.pool) b.index))
    (⊎_elim
    (λ h. small_drop 128 (object_in (pool_in ps b.pool) b.index) ((are.rooms b.pool h).pool.bytes b.index))
    (λ past. rw (get_or_past ps b.pool no_pool past) (λ k. omega arith))
    (cases_lt b.pool (length ps))))

-- what is known before the call
pub record Ready (ps : List PoolView) (v : Store) (pool full : ℕ) : Type 0 where
  pub whole : Whole ps [] v.slots
  pub there : pool < length ps
  pub in_pool : count_in ps pool ≡ available v.pools (segments_of v) pool
  pub specs : specs_of ps ≡ v.pools
  pub buffers : buffers_of ps ≡ v.buffers
  pub room : 128 + full ≡ room_at v.pools pool
  pub is : full ≡ room_at v.pools pool - 128
  pub some : 1 ≤ full
  pub few : full ≤ 4096

room_there : (ps : List PoolView) (pool : ℕ) → 1 ≤ room_at (specs_of ps) pool → pool < length ps
room_there [] pool h = absurd (omega arith)
room_there (p ∷ ps) zero h = omega arith
room_there (p ∷ ps) (suc pool) h = omega (arith, room_there ps pool h)

pub pool_of_room : (ps : List PoolView) (v : Store) (pool : ℕ) → shown ps ≡ v → 129 ≤ room_at v.pools pool → pool < length ps
pool_of_room ps v pool e h =
    room_there ps pool (omega (arith, rw (← e) at h))

pub ready : (ps : List PoolView) (v : Store) (pool full r : ℕ) → shown ps ≡ v → Sound ps → 129 ≤ room_at v.pools pool → r ≡ room_at (specs_of ps) pool →
    full ≡ r - 128 → Ready ps v pool full
ready ps v pool full r e sound h er ef =
    let there = pool_of_room ps v pool e h in
    let same = ap (λ s. room_at s.pools pool) e in
    let l = ap (λ s. length s.pools) e in
    record {
      whole = rw (← e) sound;
      there = there;
      in_pool = sym (free_in ps v pool e sound (omega (arith, there, l, length_specs ps)));
      specs = ap (λ s. s.pools) e;
      buffers = ap (λ s. s.buffers) e;
      room = omega (arith, h, er, ef, same);
      is = omega (arith, er, ef, same);
      some = omega (arith, h, er, ef, same);
      few = omega (arith, rooms_small ps sound.are pool);
    }

pub need_is : (v : Store) (pool full total need : ℕ) → full ≡ room_at v.pools pool - 128 → need ≡ max 1 ((total + (full - 1)) / full) →
    need ≡ needed v.pools pool total
need_is v pool full total need ef en =
    rw (en, ef)

-- one buffer is enough for the bytes that fit into it
one_at_most : (q : ℕ) → q < 2 → 1 ≡ max 1 q
one_at_most zero b = refl
one_at_most (suc zero) b = refl
one_at_most (suc (suc q)) b = absurd (omega arith)

pub one_needed : (full total : ℕ) → 1 ≤ full → total ≤ full → 1 ≡ max 1 ((total + (full - 1)) / full)
one_needed full total some few = one_at_most ((total + (full - 1)) / full) ((div-lt_iff_lt-mul some).1 (omega (arith, some, few)))

module _ {v : Store} {pool full : ℕ} {bytes : List ℕ} {ps0 ps : List PoolView} {first last : Number} {rest : List ℕ} {i need : ℕ}
    (c : Receiving ps v pool full bytes first last rest i) (before : Ready ps0 v pool full) (en : need
    ≡ max 1 ((length bytes + (full - 1)) / full)) (few : needed v.pools pool (length bytes) ≤ 64) (ei : i ≡ need) where
  pub receive_object : HasObject ps first
  receive_object =
      let f = first_in (header_at ps) first (filled full c.numbers (length bytes)) (omega (arith, length_filled full c.numbers (length bytes))) c.links in
      object_of ps first (all_at (IsNumber (specs_of ps)) (filled full c.numbers (length bytes)) first
      (all_left (λ t. IsNumber (specs_of ps) t.mbuf) (filled full c.numbers (length bytes)) (segments_held v.slots) c.whole.counted.numbers) f)

  pub receive_done : (ps' : List PoolView) (r : ℕ) → need ≤ available v.pools (segments_of v) pool → r ≡ handle first →
      HeaderSet ps first (record (header_at ps first) { segs = need; last = last }) ps' → Sound ps' × ReceivesInto v pool bytes (shown ps') (Some r)
  receive_done ps' r enough er done =
      let total : ℕ = length bytes in
      let made : Packet = filled full c.numbers total in
      let k : Packet = received (room_at v.pools pool) c.numbers total in
      let l : length made ≡ i = rw length_filled c.count in
      let is_need : need ≡ needed v.pools pool total = need_is v pool full total need before.is en in
      let just : Enough full (length c.numbers) total =
      rw (c.count, ei, en) (needed_enough total full total (omega arith) before.some) in
      let is : made ≡ k = received_is (room_at v.pools pool) full c.numbers total before.is just in
      let none : rest ≡ [] = nil_from_length rest (rw (c.rest_long, ← c.count) (left_end full (length c.numbers) total just)) in
      let x : Header = record (header_at ps first) { segs = need; last = last } in
      let h = first_set ps ps' v.slots first made x c.whole c.links (omega arith) (omega arith) done (omega arith) c.last_is refl
      (record { offset = refl; len = refl; next = refl; buffer = refl }) in
      let d = settled ps' (set v.slots (handle first) (Some made)) h.0 in
      let there : handle first < length v.slots = omega (arith, c.whole.shows.many, (number_small ps first c.whole.are receive_object).2) in (
        d.0,
        rw er (
          omega arith,
          rw (slice_get-get_or v.slots (handle first) None there, h.1),
          c.numbers,
          buffers_of ps,
          record {
            count = rw (c.count, ei) is_need;
            distinct = distinct_filled full c.numbers total (λ m. omega (arith, c.whole.counted.once m, mbufs-append made (segments_held v.slots) m));
            each = c.each;
          },
          record {
            spells = rw (← is, ← append-nil (packet_bytes (buffers_of ps) made), ← none) c.spells;
            others = record {
              others = c.others;
              lengths = λ b. rw (← before.buffers) (lengths_same ps0 ps b before.whole.are c.whole.are (rw c.specs (rw before.specs)));
              bytes = λ _. are_bytes ps c.whole.are;
            };
          },
          store_eq (shown ps') (record v { buffers = buffers_of ps; slots = slice_set v.slots (handle first) (Some k) }) (rw done.specs c.specs) done.buffers
              (rw (← is) d.1),
        ),
      )

-- A record can be received: the free buffers can hold bytes such that the packet has the record's.
use Rattle.std.proofs.Common.{◌≡◌, ℕ, zero, suc, ◌+◌, ◌-◌, ◌*◌, ◌/◌, ◌<◌, ◌≤◌, max, false, ◌||◌, List, [], ◌∷◌, ◌++◌, length, take, drop, refl, sym, ◌∙◌, ap}
use Rattle.std.proofs.Common.{subst, arith, rules, length-take, length-drop}
use Rattle.std.specs.Prelude.{slice_range}
use Rattle.std.specs.List.{AllByRecursion, list_any}
use Rattle.std.proofs.lemmas.Bool.{or_parts}
use Rattle.std.proofs.lemmas.List.{append-nil, take-append-drop, places, same_lists}
use Rattle.std.proofs.Math.Nat.{div-mul-le_self}
use Rattle.dp_model.specs.declared.env.PoolSpec.{PoolSpec}
use Rattle.dp_model.specs.Environments.{room_at}
use Rattle.dp_model.specs.Buffers.{Number, same_number, AreDistinct, IsNumber, Buffers, bytes_of, overwritten, written, ChangesOnly}
use Rattle.dp_model.specs.Packets.{Segment, segment_bytes, packet_bytes, direct, needed, received, Filled, IsFresh, AreFresh}
use Rattle.dp_model.specs.Laws.Stored.{bytes_other, bytes_same, write_changes}
use Rattle.dp_model.specs.Laws.Lists.{all_take, all_drop}
use Rattle.dp_model.specs.Laws.Within.{needed_holds}

-- ---- one write

pub range_written : (old new : List ℕ) (offset : ℕ) → offset + length new ≤ length old
    → slice_range (overwritten old offset new) offset (offset + length new) ≡ new
range_written old new offset fits = same_lists _ _ (search (rules, places)) (λ k d h. grind (arith, places))

-- changes of some buffers, then of one more
changes_then : (n : Number) (ns : List Number) (old mid new : Buffers) → ChangesOnly ns old mid → ChangesOnly (n ∷ []) mid new → ChangesOnly (n ∷ ns) old new
changes_then n ns old mid new first second = record {
  others = λ b apart. let (here, rest) = or_parts (same_number b n) (list_any (same_number b) ns) apart in
      second.others b (ap (λ t. t || false) here) ∙ first.others b rest;
  lengths = λ b. second.lengths b ∙ first.lengths b;
  bytes = λ well. second.bytes (first.bytes well);
}

-- ---- the bytes of a received packet

-- the buffers after the record's bytes are written, one after the other
pub filled_with : ℕ → List Number → List ℕ → Buffers → Buffers
filled_with room [] bytes old = old
filled_with room (n ∷ []) bytes old = written old n 128 bytes
filled_with room (n ∷ m ∷ ns) bytes old = written (filled_with room (m ∷ ns) (drop (room - 128) bytes) old) n 128 (take (room - 128) bytes)

-- each of these buffers has n bytes
abbrev pub HaveLength : ℕ → Buffers → List Number → Type 0
HaveLength room buffers ns = AllByRecursion (λ n. length (bytes_of buffers n) ≡ room) ns

-- exactly as many buffers as the record needs
pub record AreEnough (room : ℕ) (ns : List Number) (bytes : List ℕ) : Type 0 where
  pub large : 128 < room
  pub hold : length bytes ≤ length ns * (room - 128)
  pub full : length ns * (room - 128) ≤ length bytes + (room - 128)

fewer_hold : (c r len : ℕ) → len ≤ suc (suc c) * r → len - r ≤ suc c * r
fewer_hold c r len h = omega (arith, h)

fewer_full : (c r len : ℕ) → suc (suc c) * r ≤ len + r → suc c * r ≤ (len - r) + r
fewer_full c r len h = omega (arith, h)

first_full : (c r len : ℕ) → suc (suc c) * r ≤ len + r → r ≤ len
first_full c r len h = omega (arith, h)

enough_rest : (room : ℕ) (n m : Number) (ns : List Number) (bytes : List ℕ) → AreEnough room (n ∷ m ∷ ns) bytes →
    AreEnough room (m ∷ ns) (drop (room - 128) bytes)
enough_rest room n m ns bytes e =
    let long : length (drop (room - 128) bytes) ≡ length bytes - (room - 128) = length-drop (room - 128) bytes in
    record {
      large = e.large;
      hold = omega (arith, long, fewer_hold (length ns) (room - 128) (length bytes) e.hold);
      full = omega (arith, long, fewer_full (length ns) (room - 128) (length bytes) e.full);
    }

-- only these buffers change
pub filled_changes : (room : ℕ) (ns : List Number) (bytes : List ℕ) (old : Buffers) → AreEnough room ns bytes → HaveLength room old ns →
    AllByRecursion (λ x. x < 256) bytes → ChangesOnly ns old (filled_with room ns bytes old)
unfolding filled_with
filled_changes room [] bytes old e have small = record { others = λ b apart. refl; lengths = λ b. refl; bytes = λ well. well }
filled_changes room (n ∷ []) bytes old e have small =
    write_changes old n 128 bytes (omega (arith, e.large, e.hold, have.0)) small
filled_changes room (n ∷ m ∷ ns) bytes old e have small =
    let rest = filled_changes room (m ∷ ns) (drop (room - 128) bytes) old (enough_rest room n m ns bytes e) have.1 (all_drop (room - 128) bytes small) in
    changes_then n (m ∷ ns) old (filled_with room (m ∷ ns) (drop (room - 128) bytes) old) (filled_with room (n ∷ m ∷ ns) bytes old) rest
    (write_changes (filled_with room (m ∷ ns) (drop (room - 128) bytes) old) n 128 (take (room - 128) bytes)
    (omega (arith, e.large, have.0, rest.lengths n, length-take (room - 128) bytes))
    (all_take (room - 128) bytes small))

-- a write elsewhere leaves the packet's bytes
packet_quiet : (room : ℕ) (ns : List Number) (len : ℕ) (buffers : Buffers) (n : Number) (offset : ℕ) (new : List ℕ) →
    AllByRecursion (λ m. same_number n m ≡ false) ns → packet_bytes (written buffers n offset new) (received room ns len)
    ≡ packet_bytes buffers (received room ns len)
packet_quiet room [] len buffers n offset new apart = refl
packet_quiet room (m ∷ []) len buffers n offset new apart =
    ap (λ bytes. slice_range bytes 128 (128 + len) ++ []) (bytes_other buffers n m (overwritten (bytes_of buffers n) offset new) apart.0)
packet_quiet room (m ∷ l ∷ ns) len buffers n offset new apart =
    ap (λ bytes. slice_range bytes 128 (128 + (room - 128)) ++ packet_bytes (written buffers n offset new) (received room (l ∷ ns) (len - (room - 128))))
    (bytes_other buffers n m (overwritten (bytes_of buffers n) offset new) apart.0)
    ∙ ap (λ bytes. slice_range (bytes_of buffers m) 128 (128 + (room - 128))
    ++ bytes) (packet_quiet room (l ∷ ns) (len - (room - 128)) buffers n offset new apart.1)

-- the segment that was written has what was written
written_segment : (buffers : Buffers) (n : Number) (new : List ℕ) (len : ℕ) → len ≡ length new → 128 + length new ≤ length (bytes_of buffers n) →
    segment_bytes (written buffers n 128 new) (direct n 128 len) ≡ new
written_segment buffers n new len is fits =
    ap (λ l. slice_range (bytes_of (written buffers n 128 new) n) 128 (128 + l)) is
    ∙ (ap (λ bytes. slice_range bytes 128 (128 + length new)) (bytes_same buffers n (overwritten (bytes_of buffers n) 128 new) (omega (arith, fits)))
    ∙ range_written (bytes_of buffers n) new 128 fits)

pub filled_spells : (room : ℕ) (ns : List Number) (bytes : List ℕ) (old : Buffers) → AreEnough room ns bytes → HaveLength room old ns → AreDistinct ns →
    AllByRecursion (λ x. x < 256) bytes → packet_bytes (filled_with room ns bytes old) (received room ns (length bytes)) ≡ bytes
unfolding filled_with
filled_spells room [] [] old e have distinct small = refl
filled_spells room [] (b ∷ bytes) old e have distinct small = absurd (omega (arith, e.hold))
filled_spells room (n ∷ []) bytes old e have distinct small =
    append-nil (segment_bytes (written old n 128 bytes) (direct n 128 (length bytes)))
    ∙ written_segment old n bytes (length bytes) refl (omega (arith, e.large, e.hold, have.0))
filled_spells room (n ∷ m ∷ ns) bytes old e have distinct small =
    let r = room - 128 in
    let rest = filled_with room (m ∷ ns) (drop r bytes) old in
    let few = enough_rest room n m ns bytes e in
    let lengths = (filled_changes room (m ∷ ns) (drop r bytes) old few have.1 (all_drop r bytes small)).lengths n in
    let taken : length (take r bytes) ≡ r = omega (arith, length-take r bytes, first_full (length ns) r (length bytes) e.full) in
    let here : segment_bytes (written rest n 128 (take r bytes)) (direct n 128 r) ≡ take r bytes =
    written_segment rest n (take r bytes) r (sym taken) (omega (arith, e.large, have.0, lengths, taken)) in
    let there : packet_bytes (written rest n 128 (take r bytes)) (received room (m ∷ ns) (length bytes - r)) ≡ drop r bytes =
    packet_quiet room (m ∷ ns) (length bytes - r) rest n 128 (take r bytes) distinct.0
    ∙ (ap (λ l. packet_bytes rest (received room (m ∷ ns) l)) (sym (length-drop r bytes))
    ∙ filled_spells room (m ∷ ns) (drop r bytes) old few have.1 distinct.1 (all_drop r bytes small)) in
    ap (λ xs. xs ++ packet_bytes (written rest n 128 (take r bytes)) (received room (m ∷ ns) (length bytes - r))) here
    ∙ (ap (λ xs. take r bytes ++ xs) there ∙ take-append-drop r bytes)

-- ---- what is needed is enough

-- n segments have room for the record, and n - 1 do not
needed_full : (r len : ℕ) → max 1 ((len + (r - 1)) / r) * r ≤ len + r
needed_full r len = go ((len + (r - 1)) / r) (div-mul-le_self (len + (r - 1)) r)
  where
    go : (q : ℕ) → q * r ≤ len + (r - 1) → max 1 q * r ≤ len + r
    go zero h = omega arith
    go (suc q) h = let e : max 1 (suc q) ≡ suc q = omega arith in subst (λ m. m * r ≤ len + r) (sym e) (omega (arith, h))

have_length : (pools : List PoolSpec) (live : List Segment) (pool : ℕ) (buffers : Buffers) (ns : List Number) →
    ((b : Number) → IsNumber pools b → length (bytes_of buffers b) ≡ room_at pools b.pool) → AllByRecursion (IsFresh pools live pool) ns →
    HaveLength (room_at pools pool) buffers ns
have_length pools live pool buffers [] rooms fresh = tt
have_length pools live pool buffers (n ∷ ns) rooms fresh =
    (rooms n fresh.0.exists ∙ ap (room_at pools) fresh.0.of_pool, have_length pools live pool buffers ns rooms fresh.1)

-- the free buffers that a record needs can hold its bytes
pub can_fill : (pools : List PoolSpec) (live : List Segment) (pool : ℕ) (bytes : List ℕ) (ns : List Number) (buffers : Buffers) → 129 ≤ room_at pools pool →
    ((b : Number) → IsNumber pools b → length (bytes_of buffers b) ≡ room_at pools b.pool) → AreFresh pools live pool (needed pools pool (length bytes)) ns →
    AllByRecursion (λ x. x < 256) bytes → (new : Buffers) × Filled ns (received (room_at pools pool) ns (length bytes)) bytes buffers new
can_fill pools live pool bytes ns buffers large rooms fresh small =
    let room = room_at pools pool in
    let have = have_length pools live pool buffers ns rooms fresh.each in
    let enough : AreEnough room ns bytes = record {
      large = omega (arith, large);
      hold = subst (λ n. length bytes ≤ n * (room - 128)) (sym fresh.count) (needed_holds (room - 128) (length bytes) (omega (arith, large)));
      full = subst (λ n. n * (room - 128) ≤ length bytes + (room - 128)) (sym fresh.count) (needed_full (room - 128) (length bytes));
    } in (
      filled_with room ns bytes buffers,
      record {
        spells = filled_spells room ns bytes buffers enough have fresh.distinct small;
        others = filled_changes room ns bytes buffers enough have small;
      },
    )

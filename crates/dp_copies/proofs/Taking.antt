-- New packets, of buffers that were free: received, allocated, cloned.
use Rattle.std.proofs.Common.{◌≡◌, ℕ, suc, ◌+◌, ◌-◌, ◌≤◌, false, List, [], ◌∷◌, length, drop, refl, ◌∙◌, ap, subst, arith, length-take, length-drop, ⊎_elim}
use Rattle.std.proofs.Common.{◌*◌, min, ◌||◌, take, sym}
use Rattle.std.specs.Prelude.{slice_range}
use Rattle.std.proofs.lemmas.Bool.{cases_Bool}
use Rattle.std.specs.List.{AllByRecursion, list_any}
use Rattle.std.proofs.lemmas.List.{take_at, drop_at, append-nil}
use Rattle.dp_model.specs.declared.env.PoolSpec.{PoolSpec}
use Rattle.dp_model.specs.Environments.{room_at}
use Rattle.dp_model.specs.Buffers.{Number, same_number, Buffers, bytes_of, ChangesOnly}
use Rattle.dp_model.specs.Packets.{Segment, Packet, refs, segment_bytes, IsWithin, direct, received, allocated, cloned, packet_bytes, IsFresh}
use Rattle.dp_model.specs.Machine.{State, live}
use Rattle.dp_model.specs.Copies.{piece_of, copy_of}
use Rattle.dp_model.specs.CopyMachine.{copy_received, copy_allocated}
use Rattle.dp_model.specs.Laws.Stored.{same_is}
use Rattle.dp_model.specs.Laws.References.{free_zero}
use Rattle.dp_copies.proofs.Unchanged.{Same}

-- each number is of a pool with this room, and its buffer has that many bytes
abbrev pub AreRoomy : List PoolSpec → Buffers → ℕ → List Number → Type 0
AreRoomy pools buffers room ns = AllByRecursion (λ n. (room_at pools n.pool ≡ room) × (length (bytes_of buffers n) ≡ room)) ns

-- a received packet: all pieces but the last are full
pub received_copy : (pools : List PoolSpec) (new : Buffers) (room : ℕ) (ns : List Number) (len : ℕ) (bytes : List ℕ) → 128 ≤ room → length bytes ≡ len →
    len ≤ length ns * (room - 128) → AreRoomy pools new room ns → packet_bytes new (received room ns len) ≡ bytes → 1 ≤ length ns →
    copy_of pools new (received room ns len) ≡ copy_received room (length ns) bytes
received_copy pools new room [] len bytes big is few roomy spells some = absurd (omega arith)
received_copy pools new room (n ∷ []) len bytes big is few roomy spells some =
    let here : segment_bytes new (direct n 128 len) ≡ bytes = sym (append-nil (segment_bytes new (direct n 128 len))) ∙ spells in
    let beyond : room_at pools n.pool - 128 - len ≡ room - 128 - length bytes = omega (arith, roomy.0.0, is) in
    λ i. record { before = 128; bytes = here i; beyond = beyond i } ∷ []
received_copy pools new room (n ∷ m ∷ ns) len bytes big is few roomy spells some =
    let first = segment_bytes new (direct n 128 (room - 128)) in
    let rest = packet_bytes new (received room (m ∷ ns) (len - (room - 128))) in
    let long : length first ≡ room - 128 = omega (
      arith,
      big,
      roomy.0.1,
      length-take (128 + (room - 128) - 128) (drop 128 (bytes_of new n)),
      length-drop 128 (bytes_of new n),
    ) in
    let here : first ≡ take (room - 128) bytes = sym (take_at first rest (room - 128) long) ∙ ap (take (room - 128)) spells in
    let later : rest ≡ drop (room - 128) bytes = sym (drop_at first rest (room - 128) long) ∙ ap (drop (room - 128)) spells in
    let beyond : room_at pools n.pool - 128 - (room - 128) ≡ 0 = omega (arith, roomy.0.0) in
    let tail = received_copy pools new room (m ∷ ns) (len - (room - 128)) (drop (room - 128) bytes) big (omega (arith, length-drop (room - 128) bytes, is))
    (fewer (length ns) (room - 128) len few) roomy.1 later (omega arith) in
    λ i. record { before = 128; bytes = here i; beyond = beyond i } ∷ tail i
  where
    fewer : (c r len : ℕ) → len ≤ suc (suc c) * r → len - r ≤ suc c * r
    fewer c r len h = omega (arith, h)

-- a new packet is empty
pub alloc_copy : (pools : List PoolSpec) (buffers : Buffers) (pool : ℕ) (n : Number) → n.pool ≡ pool → copy_of pools buffers (allocated pools (n ∷ []))
    ≡ copy_allocated pools pool
alloc_copy pools buffers pool n is =
    let o : min 128 (room_at pools n.pool) ≡ min 128 (room_at pools pool) = ap (λ p. min 128 (room_at pools p)) is in
    let b : room_at pools n.pool - min 128 (room_at pools n.pool) - 0 ≡ room_at pools pool - min 128 (room_at pools pool) =
    omega (arith, ap (room_at pools) is) in
    let e : segment_bytes buffers (direct n (min 128 (room_at pools n.pool)) 0) ≡ [] = empty_range (bytes_of buffers n) (min 128 (room_at pools n.pool)) in
    λ i. record { before = o i; bytes = e i; beyond = b i } ∷ []
  where
    empty_range : (xs : List ℕ) (i : ℕ) → slice_range xs i (i + 0) ≡ []
    empty_range xs i = let z : i + 0 - i ≡ 0 = omega arith in ap (λ n. take n (drop i xs)) z

-- a clone's copy is its source's
pub cloned_copy : (pools : List PoolSpec) (buffers : Buffers) (ns : List Number) (k : Packet) → length ns ≡ length k → copy_of pools buffers (cloned ns k)
    ≡ copy_of pools buffers k
cloned_copy pools buffers [] [] e = refl
cloned_copy pools buffers (n ∷ ns) (s ∷ k) e = ap (λ c. piece_of pools buffers s ∷ c) (cloned_copy pools buffers ns k (omega arith))
cloned_copy pools buffers x y e = absurd (omega arith)

-- free buffers belong to no live segment
pub quiet : (pools : List PoolSpec) (segments : List Segment) (pool : ℕ) (ns : List Number) (b : Number) → AllByRecursion (IsFresh pools segments pool) ns →
    1 ≤ refs segments b → list_any (same_number b) ns ≡ false
quiet pools segments pool [] b all one = refl
quiet pools segments pool (n ∷ ns) b all one =
    let other : same_number b n ≡ false = ⊎_elim
    (λ yes. let e = same_is b n yes in let none : refs segments b ≡ 0 = subst (λ m. refs segments m ≡ 0) (sym e) (free_zero segments n all.0.free) in
    absurd (omega (arith, none, one)))
    (λ no. no)
    (cases_Bool (same_number b n)) in
    ap (λ t. t || list_any (same_number b) ns) other ∙ quiet pools segments pool ns b all.1 one

-- buffers that were free have their room
pub roomy : (pools : List PoolSpec) (old new : Buffers) (segments : List Segment) (pool : ℕ) (ns : List Number) →
    ((b : Number) → length (bytes_of new b) ≡ length (bytes_of old b)) → IsWithin pools old segments → AllByRecursion (IsFresh pools segments pool) ns →
    AreRoomy pools new (room_at pools pool) ns
roomy pools old new segments pool [] lengths well all = tt
roomy pools old new segments pool (n ∷ ns) lengths well all =
    let room : room_at pools n.pool ≡ room_at pools pool = ap (room_at pools) all.0.of_pool in
    ((room, lengths n ∙ (well.rooms n all.0.exists ∙ room)), roomy pools old new segments pool ns lengths well all.1)

-- nobody sees the bytes of a free buffer
pub fresh_same : (pools : List PoolSpec) (st : State) (n : Number) (buffers : Buffers) (pool : ℕ) → IsFresh pools (live st) pool n →
    ChangesOnly (n ∷ []) st.world.buffers buffers → Same pools st.world.buffers buffers (live st)
unfolding Same
fresh_same pools st n buffers pool fresh changes b one = changes.others b (⊎_elim
    (λ yes. let e = same_is b n yes in let none : refs (live st) b ≡ 0 = subst (λ m. refs (live st) m ≡ 0) (sym e) (free_zero (live st) n fresh.free) in
    absurd (omega (arith, none, one)))
    (λ no. ap (λ t. t || false) no)
    (cases_Bool (same_number b n)))

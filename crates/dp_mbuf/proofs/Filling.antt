-- How a record's bytes fill segments.
use Rattle.std.proofs.Common.{◌≡◌, ℕ, zero, suc, ◌+◌, ◌-◌, ◌/◌, ◌<◌, ◌≤◌, false, List, [], ◌∷◌, ◌++◌, length, take, drop, refl}
use Rattle.std.proofs.Common.{arith, ⊎_elim}
use Rattle.std.specs.Prelude.{min, max}
use Rattle.std.proofs.Math.Nat.{add-div_left, div-eq_of_lt}
use Rattle.std.proofs.lemmas.Bool.{cases_lt}
use Rattle.std.proofs.lemmas.List.{length-take-le, append_assoc, drop_at, take_at}
use Rattle.dp_model.specs.Buffers.{Number, same_number, Buffers, bytes_of, written, overwritten}
use Rattle.dp_model.specs.Packets.{Packet, refs, direct, received, segment_bytes, packet_bytes}
use Rattle.dp_model.specs.Laws.Stored.{bytes_other, bytes_same, same_number_refl}
use Rattle.dp_mbuf.proofs.ObjectLemmas.{same_or}
use Rattle.dp_model.specs.Laws.Cases.{one_if}
use Rattle.dp_model.specs.Laws.References.{refs-cons}

-- the segments of these numbers, as long as the bytes last
abbrev pub filled : ℕ → List Number → ℕ → Packet
filled full [] total = []
filled full (n ∷ numbers) total = direct n 128 (min full total) ∷ filled full numbers (total - full)

-- how many bytes are left after k segments
abbrev pub left : ℕ → ℕ → ℕ → ℕ
left full total zero = total
left full total (suc i) = left full (total - full) i

pub left_more : (full total i : ℕ) → left full total (i + 1) ≡ left full total i - full
left_more full total zero = refl
left_more full total (suc i) =
    let e : suc i + 1 ≡ suc (i + 1) = omega arith in rw e (left_more full (total - full) i)

pub filled_push : (full : ℕ) (numbers : List Number) (total : ℕ) (n : Number) → filled full (numbers ++ n ∷ []) total ≡ filled full numbers total
    ++ direct n 128 (min full (left full total (length numbers))) ∷ []
filled_push full [] total n = refl
filled_push full (m ∷ numbers) total n =
    cc (filled_push full numbers (total - full) n)

pub length_filled : (full : ℕ) (numbers : List Number) (total : ℕ) → length (filled full numbers total) ≡ length numbers
length_filled full [] total = refl
length_filled full (n ∷ numbers) total = cc (length_filled full numbers (total - full))

-- ---- how many segments are just enough

abbrev pub Enough : ℕ → ℕ → ℕ → Type 0
Enough full zero total = ⊥
Enough full (suc zero) total = total ≤ full
Enough full (suc (suc n)) total = (full < total) × Enough full (suc n) (total - full)

pub left_end : (full n total : ℕ) → Enough full n total → left full total n ≡ 0
left_end full zero total e = absurd e
left_end full (suc zero) total e = omega arith
left_end full (suc (suc n)) total e = left_end full (suc n) (total - full) e.1

pub received_is : (room full : ℕ) (numbers : List Number) (total : ℕ) → full ≡ room - 128 → Enough full (length numbers) total → filled full numbers total
    ≡ received room numbers total
received_is room full [] total e h = absurd h
received_is room full (n ∷ []) total e h =
    let m : min full total ≡ total = omega (arith, h) in cc
received_is room full (n ∷ k ∷ numbers) total e h =
    let m : min full total ≡ room - 128 = omega (arith, h.0, e) in
    cc (m, e, received_is room full (k ∷ numbers) (total - full) e h.1)

-- a positive number of bytes fills one part more than the bytes after the first do
one_more : (full total : ℕ) → 1 ≤ full → 1 ≤ total → (total + (full - 1)) / full ≡ (total - 1) / full + 1
one_more full total some more =
    let e : total + (full - 1) ≡ full + (total - 1) = omega arith in
    rw e (add-div_left (total - 1) some)

pub needed_enough : (fuel full total : ℕ) → total ≤ fuel → 1 ≤ full → Enough full (max 1 ((total + (full - 1)) / full)) total
needed_enough fuel full zero f some =
    let e : 0 + (full - 1) ≡ full - 1 = omega arith in
    let z : (0 + (full - 1)) / full ≡ 0 = rw e (div-eq_of_lt (omega arith)) in
    let m : 1 ≡ max 1 ((0 + (full - 1)) / full) = omega (arith, z) in
    rw (← m) (omega arith)
needed_enough zero full (suc t) f some = absurd (omega arith)
needed_enough (suc fuel) full (suc t) f some = ⊎_elim
    (λ over.
    let total' : ℕ = suc t - full in
    let r : ℕ = (total' - 1) / full in
    let e : suc t + (full - 1) ≡ full + (total' + (full - 1)) = omega arith in
    let q : (suc t + (full - 1)) / full ≡ (total' + (full - 1)) / full + 1 = rw e (add-div_left (total' + (full - 1)) some) in
    let q' : (total' + (full - 1)) / full ≡ r + 1 = one_more full total' some (omega arith) in
    let m : suc (suc r) ≡ max 1 ((suc t + (full - 1)) / full) = omega (arith, q, q') in
    let m' : max 1 ((total' + (full - 1)) / full) ≡ suc r = omega (arith, q') in
    let more : total' ≤ fuel = omega arith in
    rw (← m) (over, rw m' at (needed_enough fuel full total' more some)))
    (λ under.
    let q = one_more full (suc t) some (omega arith) in
    let z : (suc t - 1) / full ≡ 0 = div-eq_of_lt (omega arith) in
    let m : 1 ≡ max 1 ((suc t + (full - 1)) / full) = omega (arith, q, z) in
    rw (← m) under)
    (cases_lt full (suc t))

-- ---- bytes

-- writing other bytes keeps those of the segments
pub bytes_stay : (buffers : Buffers) (n : Number) (at : ℕ) (new : List ℕ) (k : Packet) → refs k n ≡ 0 → packet_bytes (written buffers n at new) k
    ≡ packet_bytes buffers k
bytes_stay buffers n at new [] z = refl
bytes_stay buffers n at new (s ∷ k) z =
    let d : same_number n s.buffer ≡ false = ⊎_elim
    (λ e. absurd (let o : one_if (same_number s.buffer n) ≡ 1 = rw (← e, same_number_refl) in omega (arith, z, refs-cons s k n)))
    (λ f. f)
    (same_or n s.buffer) in
    rw (bytes_other buffers n s.buffer (overwritten (bytes_of buffers n) at new) d, bytes_stay buffers n at new k (omega (arith, z, refs-cons s k n)))

-- the bytes of the segment that was written
pub bytes_new : (buffers : Buffers) (n : Number) (at : ℕ) (new : List ℕ) → 0 < length (bytes_of buffers n) → at + length new ≤ length (bytes_of buffers n) →
    segment_bytes (written buffers n at new) (direct n at (length new)) ≡ new
bytes_new buffers n at new some fits =
    let old : List ℕ = bytes_of buffers n in
    let l : length (take at old) ≡ at = length-take-le at old (omega arith) in
    let e : at + length new - at ≡ length new = omega arith in
    rw (bytes_same buffers n (overwritten old at new) some, drop_at (take at old) (new ++ drop (at + length new) old) at l, e)
    (take_at new (drop (at + length new) old) (length new) refl)

pub packet_append : (buffers : Buffers) (k j : Packet) → packet_bytes buffers (k ++ j) ≡ packet_bytes buffers k ++ packet_bytes buffers j
packet_append buffers [] j = refl
packet_append buffers (s ∷ k) j =
    simp (packet_append buffers k j, append_assoc)

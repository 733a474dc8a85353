-- The words on numbers: the least 2^k - 1, and loads return what was stored.
use Rattle.std.proofs.Common.{◌≡◌, ℕ, zero, suc, ◌+◌, ◌-◌, ◌*◌, ◌/◌, ◌%◌, ◌^◌, ◌≤◌, List, ◌∷◌, length, drop, sym, ◌∙◌, ap, arith, length-take}
use Rattle.std.proofs.Common.{length-drop}
use Rattle.std.specs.Prelude.{slice_range}
use Rattle.std.proofs.Math.Nat.{one-le-pow, two-pow-succ, pow-succ'}
use Rattle.std.proofs.Math.Arith.{mod-mul}
use Rattle.dp_model.specs.Arithmetic.{ones_within, big_endian, spelled}
use Rattle.dp_model.specs.Buffers.{Buffers, bytes_of, overwritten, written}
use Rattle.dp_model.specs.Packets.{Segment, Packet, segment_bytes, stored, loaded}
use Rattle.dp_model.specs.Laws.Stored.{bytes_same, range_overwritten}
use Rattle.dp_model.proofs.Filling.{range_written}
use Rattle.dp_model.specs.Laws.StepsWithin.{length_big_endian}

-- ---- the least 2^k - 1 that is at least n

pub ones_least : (limit n j : ℕ) → n + 1 ≤ 2 ^ j → ones_within limit n + 1 ≤ 2 ^ j
ones_least limit zero j le = omega (arith, one-le-pow j 2 (omega arith))
ones_least zero (suc n) j le = omega (arith, one-le-pow j 2 (omega arith))
ones_least (suc limit) (suc n) zero le = absurd (omega (arith, le))
ones_least (suc limit) (suc n) (suc j) le =
    omega (arith, two-pow-succ j, ones_least limit (suc n / 2) j (omega (arith, le, two-pow-succ j)))

-- ---- bytes of numbers

-- the bytes of a number spell its low part
pub spelled_low : (w n : ℕ) → spelled (big_endian w n) ≡ n % 256 ^ w
spelled_low zero n = omega arith
spelled_low (suc w) n =
    ap (λ l. (n / 256 ^ w) % 256 * 256 ^ l + spelled (big_endian w n)) (length_big_endian w n)
    ∙ (ap (λ s. (n / 256 ^ w) % 256 * 256 ^ w + s) (spelled_low w n)
    ∙ (sym (mod-mul n {m = 256} {c = 256 ^ w} (omega arith) (one-le-pow w 256 (omega arith))) ∙ ap (λ p. n % p) (sym (pow-succ' 256 w))))

-- ---- what is stored is loaded

pub stored_loaded : (start w n : ℕ) (s : Segment) (rest : Packet) (buffers : Buffers) → 1 ≤ w → start + w ≤ s.len →
    s.offset + s.len ≤ length (bytes_of buffers s.buffer) → loaded start w (s ∷ rest) (stored start w n (s ∷ rest) buffers) ≡ n % 256 ^ w
stored_loaded start w n s rest buffers some fits inside =
    let new = big_endian w n in
    let long = length_big_endian w n in
    let old = bytes_of buffers s.buffer in
    let bytes : segment_bytes (written buffers s.buffer (s.offset + start) new) s ≡ overwritten (slice_range old s.offset (s.offset + s.len)) start new =
    ap (λ xs. slice_range xs s.offset (s.offset + s.len)) (bytes_same buffers s.buffer (overwritten old (s.offset + start) new)
    (omega (arith, some, fits, inside)))
    ∙ range_overwritten old new s.offset s.len start (omega (arith, long, fits)) inside in
    let whole : length (slice_range old s.offset (s.offset + s.len)) ≡ s.len = length_part old s.offset s.len inside in
    ap (λ xs. spelled (slice_range xs start (start + w))) bytes
    ∙ (ap (λ l. spelled (slice_range (overwritten (slice_range old s.offset (s.offset + s.len)) start new) start (start + l))) (sym long)
    ∙ (ap spelled (range_written (slice_range old s.offset (s.offset + s.len)) new start (omega (arith, whole, long, fits))) ∙ spelled_low w n))
  where
    length_part : (xs : List ℕ) (offset len : ℕ) → offset + len ≤ length xs → length (slice_range xs offset (offset + len)) ≡ len
    length_part xs offset len inside = omega (arith, length-take (offset + len - offset) (drop offset xs), length-drop offset xs)

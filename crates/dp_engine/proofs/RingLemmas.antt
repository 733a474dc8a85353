-- Rings by number, and what waits in them.
use Rattle.std.proofs.Common.{◌≡◌, ℕ, zero, suc, ◌<◌, List, [], ◌∷◌, length, drop, map, Some, refl, sym, ap, arith}
use Rattle.std.specs.Prelude.{slice_get, slice_set}
use Rattle.dp_ring.specs.Rings.{RingView}
use Rattle.dp_engine.specs.Queues.{ring_at}
use Rattle.dp_engine.specs.Handles.{without_entries, entries_of}

-- the entries of a ring among those of all
pub entries_at : (rings : List RingView) (k : ℕ) → k < length rings → slice_get (map entries_of rings) k ≡ Some ((ring_at rings k).entries)
entries_at [] k lt = absurd (omega (arith, lt))
entries_at (r ∷ rings) zero lt = refl
entries_at (r ∷ rings) (suc k) lt = entries_at rings k (omega (arith, lt))

-- a ring without its entries stays
pub frames_kept : (rings : List RingView) (k : ℕ) (entries : List ℕ) →
    map without_entries (slice_set rings k (record (ring_at rings k) { entries = entries })) ≡ map without_entries rings
frames_kept [] k entries = refl
frames_kept (r ∷ rings) zero entries = refl
frames_kept (r ∷ rings) (suc k) entries = ap (λ l. without_entries r ∷ l) (frames_kept rings k entries)

pub frames_length : (rings : List RingView) → length (map without_entries rings) ≡ length rings
frames_length [] = refl
frames_length (r ∷ rings) = let more = frames_length rings in omega (arith, more)

pub frame_count : (rings : List RingView) (k : ℕ) → (ring_at (map without_entries rings) k).count ≡ (ring_at rings k).count
frame_count [] k = refl
frame_count (r ∷ rings) zero = refl
frame_count (r ∷ rings) (suc k) = frame_count rings k

-- a list with a first entry
pub first_of : (xs : List ℕ) (h : ℕ) → Some h ≡ slice_get xs 0 → xs ≡ h ∷ drop 1 xs
first_of [] h e = cc
first_of (x ∷ xs) h e = ap (λ y. y ∷ xs) (sym (one x h e))
  where
    one : (x h : ℕ) → Some h ≡ Some x → h ≡ x
    one x h e = cc

-- Rings of numbers in a zone.
use Rattle.std.specs.Prelude.{◌≡◌, refl, ℕ, zero, suc, ◌+◌, ◌-◌, ◌*◌, ◌<◌, ◌≤◌, ◌⊎◌, slice_index, nat_lt, if◌then◌else◌, List, [], ◌∷◌, ◌++◌, length, drop}
use Rattle.std.specs.Coded.{Coded, code_by, coded×, coded_list, coded_ℕ}
use Rattle.dp_region.specs.Ownership.{Home, home_code}
use Rattle.dp_region.specs.Region.{number_at}
use Rattle.dp_zone.specs.Zones.{ZoneView}

-- a ring: the number of slots, of which one stays unused; its entries, first in first; and the name, region, offset and length of its zone
pub record RingView : Type 0 where
  pub count : ℕ
  pub entries : List ℕ
  pub name : List ℕ
  pub home : Home
  pub offset : ℕ
  pub len : ℕ

-- it is stored as the tuple of its fields
abbrev pub ring_code : Coded RingView
ring_code =
    code_by (ℕ × (List ℕ × (List ℕ × (Home × (ℕ × ℕ))))) (coded× coded_ℕ
    (coded× (coded_list coded_ℕ) (coded× (coded_list coded_ℕ) (coded× home_code (coded× coded_ℕ coded_ℕ)))))
    (λ r. (r.count, (r.entries, (r.name, (r.home, (r.offset, r.len))))))
    (λ p. record { count = p.0; entries = p.1.0; name = p.1.1.0; home = p.1.1.1.0; offset = p.1.1.1.1.0; len = p.1.1.1.1.1 }) (λ _. refl)

-- the maximum number of slots of a ring
abbrev pub max_slots : ℕ
max_slots = 65536

-- the numbers of slots that a ring may have. They need not be powers of two, as DPDK's rings require
abbrev pub IsCount : ℕ → Type 0
IsCount n = (2 ≤ n) × (n ≤ max_slots)

-- a ring without entries in a zone
abbrev pub empty_over : ZoneView → ℕ → RingView
empty_over zone count = record { count = count; entries = []; name = zone.name; home = zone.home; offset = zone.offset; len = length zone.bytes }

-- how many more entries fit
abbrev pub room_in : RingView → ℕ
room_in r = r.count - 1 - length r.entries

-- the ring with these entries appended
abbrev pub with_more : RingView → List ℕ → RingView
with_more r values = record r { entries = r.entries ++ values }

-- the ring without its first n entries
abbrev pub without_first : RingView → ℕ → RingView
without_first r n = record r { entries = drop n r.entries }

-- ---- how the entries lie in the zone's bytes

-- the slot after one
abbrev pub next_slot : ℕ → ℕ → ℕ
next_slot count i = if nat_lt (i + 1) count then i + 1 else 0

-- the n entries that begin at a slot
abbrev pub entries_from : List ℕ → ℕ → ℕ → ℕ → List ℕ
entries_from bytes count first zero = []
entries_from bytes count first (suc n) = number_at bytes (4 * first) 4 ∷ entries_from bytes count (next_slot count first) n

-- the slot n places after one
abbrev pub slot_after : ℕ → ℕ → ℕ → ℕ
slot_after count first n = if nat_lt (first + n) count then first + n else first + n - count

-- the numbers lie in consecutive slots, starting at one
abbrev pub IsRun : List ℕ → ℕ → List ℕ → Type 0
IsRun bytes slot numbers = (k : ℕ) → k < length numbers → number_at bytes (4 * (slot + k)) 4 ≡ slice_index numbers k

-- new has these numbers in consecutive slots, starting at `slot`, and every other number as old has it
pub record Stores (slot : ℕ) (numbers old new : List ℕ) : Type 0 where
  pub long : length new ≡ length old
  pub stored : IsRun new slot numbers
  pub others : (q : ℕ) → q + 4 ≤ length old → (q + 4 ≤ 4 * slot) ⊎ (4 * (slot + length numbers) ≤ q) → number_at new q 4 ≡ number_at old q 4

-- Internal: the rings of an engine, by number.
use Rattle.std.specs.Prelude.{◌≡◌, ℕ, ◌<◌, ◌≤◌, ◌==◌, Bool, not, List, [], ◌∷◌, length, Option, Some, None, slice_index_or}
use Rattle.std.specs.List.{AllByRecursion}
use Rattle.dp_ring.specs.Rings.{RingView}

-- ---- slots for rings

-- the rings of a list of slots whose first ones are filled
abbrev pub rings_in : List (Option RingView) → List RingView
rings_in [] = []
rings_in (None ∷ slots) = []
rings_in (Some r ∷ slots) = r ∷ rings_in slots

-- the filled slots come first
abbrev pub RingsFirst : List (Option RingView) → Type 0
RingsFirst [] = Unit {0}
RingsFirst (None ∷ slots) = AllByRecursion (λ o. o ≡ None) slots
RingsFirst (Some r ∷ slots) = RingsFirst slots

-- ---- rings by their numbers

-- a placeholder for a missing ring
abbrev pub no_ring : RingView
no_ring = record {
  count = 0;
  entries = [];
  name = [];
  home = record { block = 0; start = 0; rights = 0 };
  offset = 0;
  len = 0;
}

-- the ring of this number
abbrev pub ring_at : List RingView → ℕ → RingView
ring_at rings k = slice_index_or rings k no_ring

-- whether a ring has an entry
abbrev pub is_waiting : RingView → Bool
is_waiting r = not (length r.entries == 0)

-- the numbers of entries of these lists, each of which has room for more
pub record AreCounts (counts : List ℕ) (lists : List RingView) : Type 0 where
  pub many : length counts ≡ 8
  pub few : length lists ≤ 8
  pub each : (k : ℕ) → k < length lists → slice_index_or counts k 0 ≡ length (ring_at lists k).entries
  pub room : (k : ℕ) → k < length lists → length (ring_at lists k).entries < (ring_at lists k).count

-- ---- the queues of a machine

-- its rings and its transmit lists, by number
pub record QueuesView : Type 0 where
  pub rings : List RingView
  pub outboxes : List RingView

-- ---- a slot for a ring

-- the ring in a slot
abbrev pub ring_of : Option RingView → RingView
ring_of None = no_ring
ring_of (Some r) = r

-- Internal: a heap whose zones are taken from the top down: one free element at the bottom, and busy ones above it.
use Rattle.std.specs.Prelude.{◌≡◌, ℕ, ◌+◌, ◌-◌, ◌%◌, ◌<◌, ◌≤◌, ◌⊎◌, false, List, [], ◌∷◌, length, map}
use Rattle.dp_region.specs.Ownership.{Home}
use Rattle.dp_region.specs.Region.{cache_line}
use Rattle.dp_heap.specs.declared.elements.Element.{Element}
use Rattle.dp_heap.specs.declared.elements.State.TheVariants.{Free, Busy}
use Rattle.dp_heap.specs.Elements.{header_len, is_free, is_busy, data_of, sum_of, count_of, Taken}
use Rattle.dp_heap.specs.Laid.{HeapView}
use Rattle.dp_zone.specs.Zones.{ZoneView, Reserved}

-- such a heap as contracts see it: the region, its size and how many bytes are left at the bottom, the names of the zones that are out, and the
-- length of the spare one, which lies at the top
pub record BuilderView : Type 0 where
  pub home : Home
  pub size : ℕ
  pub left : ℕ
  pub names : List (List ℕ)
  pub spare : ℕ

-- the free element of this size at the bottom
abbrev pub bottom : ℕ → Element
bottom size = record { offset = 0; size = size; state = Free; pad = 0 }

-- the element of a block of n bytes that follows its header
abbrev pub block_at : ℕ → ℕ → Element
block_at offset n = record { offset = offset; size = header_len + n; state = Busy; pad = 0 }

-- they are busy, and the last of them is t, above the others' data
abbrev pub LieUnder : Element → List Element → Type 0
LieUnder t [] = ⊥
LieUnder t (e ∷ []) = e ≡ t
LieUnder t (e ∷ x ∷ es) = (is_free e ≡ false) × (data_of e < data_of t) × LieUnder t (x ∷ es)

-- one free element at the bottom, and busy ones above it up to t
abbrev pub IsBuilt : Element → List Element → Type 0
IsBuilt t [] = ⊥
IsBuilt t (e ∷ es) = (e ≡ bottom e.size) × (e.size % cache_line ≡ 0) × (e.size < data_of t) × LieUnder t es

-- the number of bytes of the lowest element
abbrev pub left_in : List Element → ℕ
left_in [] = 0
left_in (e ∷ es) = e.size

-- the number of bytes of all elements
abbrev pub size_of : List Element → ℕ
size_of es = sum_of (λ e. e.size) es

-- e is in the list
abbrev pub Has : Element → List Element → Type 0
Has e [] = ⊥
Has e (x ∷ xs) = (x ≡ e) ⊎ Has e xs

-- the names in a table
abbrev pub names_of : List Reserved → List (List ℕ)
names_of table = map (λ r. r.name) table

-- what holds of the heap, the table and the spare zone at the top
pub record IsBuilder (heap : HeapView) (table : List Reserved) (spare : ZoneView) : Type 0 where
  pub home : spare.home ≡ heap.home
  pub even : spare.offset % cache_line ≡ 0
  pub high : header_len ≤ spare.offset
  pub built : IsBuilt (block_at (spare.offset - header_len) (length spare.bytes)) heap.elements
  pub counted : count_of is_busy heap.elements ≡ length table

-- a block of n bytes is taken, and then one of m bytes
pub record TakesTwo (old : List Element) (n m : ℕ) (new : List Element) : Type 0 where
  pub mid : List Element
  pub offset : ℕ
  pub next : ℕ
  pub first : Taken old n cache_line offset mid
  pub second : Taken mid m cache_line next new

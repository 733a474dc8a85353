-- Internal, no public contract names it: the effect of each step inside the heap on the list of elements.
use Rattle.std.specs.Prelude.{◌≡◌, ℕ, ◌-◌, Bool, true, false, ◌&&◌, List, [], ◌∷◌, ◌++◌, ◌==◌, nat_lt, if◌then◌else◌, ⊤}
use Rattle.dp_heap.specs.declared.elements.Element.{Element}
use Rattle.dp_heap.specs.declared.elements.State.TheVariants.{Free, Busy}
use Rattle.dp_heap.specs.Elements.{header_len, slack, is_busy, end_of, data_of, freed, joined}

-- e is in the list
pub record IsIn (e : Element) (es : List Element) : Type 0 where
  pub before : List Element
  pub after : List Element
  pub split : es ≡ before ++ e ∷ after

-- new is old with ps in the place of e, wherever e is
abbrev pub Replaces : Element → List Element → List Element → List Element → Type 0
Replaces e ps old new = (before after : List Element) → old ≡ before ++ e ∷ after → new ≡ before ++ (ps ++ after)

-- the part of e below mid, and the part from mid on
abbrev pub lower : Element → ℕ → Element
lower e mid = record { offset = e.offset; size = mid - e.offset; state = Free; pad = 0 }

abbrev pub upper : Element → ℕ → Element
upper e mid = record { offset = mid; size = end_of e - mid; state = Free; pad = 0 }

-- e, busy, with its data at d
abbrev pub marked : Element → ℕ → Element
marked e d = record { offset = e.offset; size = e.size; state = Busy; pad = d - header_len - e.offset }

-- e without the bytes from `end`, if those are enough for an element, and likewise without those before `start`
abbrev pub below : Element → ℕ → Element
below e end = if nat_lt slack (end_of e - end) then lower e end else e

abbrev pub above : Element → ℕ → Element
above e start = if nat_lt slack (start - e.offset) then upper e start else e

-- es after `before`, with its first joined to the last of before
abbrev pub onto : List Element → List Element → List Element
onto [] es = es
onto (x ∷ []) es = joined x es
onto (x ∷ y ∷ before) es = x ∷ onto (y ∷ before) es

-- whether e has its block at d
abbrev pub has_block : ℕ → Element → Bool
has_block d e = is_busy e && (data_of e == d)

-- no element of es has its block at d
abbrev pub NoneAt : ℕ → List Element → Type 0
NoneAt d [] = ⊤
NoneAt d (e ∷ es) = (has_block d e ≡ false) × NoneAt d es

-- an element of old had its block at d, and is free in new
pub record Emptied (d : ℕ) (whole : Element) (old new : List Element) : Type 0 where
  pub before : List Element
  pub it : Element
  pub after : List Element
  pub split : old ≡ before ++ it ∷ after
  pub block : has_block d it ≡ true
  pub is : whole ≡ freed it
  pub now : new ≡ before ++ freed it ∷ after

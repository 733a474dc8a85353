-- Internal: the five lists of free elements, by size. Two words of an element's header link them, each an offset in 4 bytes, or `none`:
--
--  16  the next element of the list
--  20  the one before it
use Rattle.std.specs.Prelude.{◌≡◌, ℕ, ◌+◌, ◌<◌, ◌≤◌, ◌⊎◌, List, [], ◌∷◌, ◌&&◌, length, slice_index, ◌==◌, nat_le, nat_lt, if◌then◌else◌}
use Rattle.dp_region.specs.Region.{RegionView, number_at, with_number}
use Rattle.dp_heap.specs.declared.elements.Element.{Element}
use Rattle.dp_heap.specs.declared.elements.State.TheVariants.{Free}
use Rattle.dp_heap.specs.Elements.{is_free, sum_of, CanHold}
use Rattle.dp_heap.specs.Edits.{IsIn}
use Rattle.dp_heap.specs.Laid.{elements_in, IsLaid}

-- the end of a list
abbrev pub none : ℕ
none = 4294967295

-- the list for elements of this size: up to 256 bytes, 1,024, 4,096, 16,384, and larger
abbrev pub class_of : ℕ → ℕ
class_of n = if nat_le n 256 then 0 else if nat_le n 1024 then 1 else if nat_le n 4096 then 2 else if nat_le n 16384 then 3 else 4

-- xs with an offset written into the word k of the header at p, unless p is `none`
abbrev pub with_link : List ℕ → ℕ → ℕ → ℕ → List ℕ
with_link xs k p offset = if nat_lt p (length xs) then with_number xs (p + k) 4 offset else xs

-- ps are linked in both directions, starting at `head`, after `before`
abbrev pub Linked : List ℕ → ℕ → ℕ → List ℕ → Type 0
Linked xs before head [] = head ≡ none
Linked xs before head (p ∷ ps) = record { first : head ≡ p; back : number_at xs (p + 20) 4 ≡ before; rest : Linked xs p (number_at xs (p + 16) 4) ps }

-- the number of times that p is in the list
abbrev pub times : ℕ → List ℕ → ℕ
times p [] = 0
times p (q ∷ ps) = (if q == p then 1 else 0) + times p ps

-- how many of es begin at p and belong to the list c
abbrev pub belongs : ℕ → ℕ → Element → ℕ
belongs c p e = if is_free e && ((class_of e.size == c) && (e.offset == p)) then 1 else 0

abbrev pub belong : ℕ → ℕ → List Element → ℕ
belong c p = sum_of (belongs c p)

-- the lists that begin at `heads` have each free element of es once, in the list of its size, except those of `off`
pub record Listed (xs heads : List ℕ) (es off : List Element) : Type 0 where
  pub lists : ℕ → List ℕ
  pub five : length heads ≡ 5
  pub linked : (c : ℕ) → c < 5 → Linked xs none (slice_index heads c) (lists c)
  pub counted : (c p : ℕ) → times p (lists c) + belong c p off ≡ belong c p es

-- e is free, and in none of the lists that begin at `heads`
pub record IsOff (r : RegionView) (heads : List ℕ) (e : Element) : Type 0 where
  pub laid : IsLaid r
  pub inside : IsIn e (elements_in r.bytes)
  pub free : e.state ≡ Free
  pub listed : Listed r.bytes heads (elements_in r.bytes) (e ∷ [])

-- outside low up to high no word changes, except the one at 12 of the header at high
abbrev pub Outside : ℕ → ℕ → List ℕ → List ℕ → Type 0
Outside low high xs ys = (q : ℕ) → q + 4 ≤ length xs → (q + 4 ≤ low) ⊎ (high ≤ q) → (q + 4 ≤ high + 12) ⊎ (high + 16 ≤ q) → number_at ys q 4 ≡ number_at xs q 4

-- no element of the list c has room for a block of n bytes, aligned to a
abbrev pub NoneHolds : ℕ → ℕ → ℕ → List Element → Type 0
NoneHolds c n a es = (e : Element) → IsIn e es → class_of e.size ≡ c → (d : ℕ) → ¬ CanHold e n a d

-- no element of a list of smaller ones has room
abbrev pub NoneBelow : ℕ → ℕ → ℕ → List Element → Type 0
NoneBelow c n a es = (b : ℕ) → b < c → NoneHolds b n a es

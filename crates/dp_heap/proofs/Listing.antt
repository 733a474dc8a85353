-- The offsets in the lists are those of free elements, each once.
use Rattle.std.proofs.Common.{◌≡◌, ℕ, ◌+◌, ◌%◌, ◌^◌, ◌<◌, ◌≤◌, List, [], ◌∷◌, ◌++◌, length, sym, subst, ◌∙◌, arith, lit<}
use Rattle.std.specs.Prelude.{◌⊎◌, slice_index}
use mathlib.Core.Logic.{⊎_elim}
use Rattle.dp_region.specs.Spans.{IsUnlent}
use Rattle.dp_region.specs.Region.{RegionView, number_at}
use Rattle.dp_heap.specs.declared.elements.Element.{Element}
use Rattle.dp_heap.specs.Laid.{elements_in, Laid, IsLaid}
use Rattle.dp_heap.specs.Lists.{none, times, belong, Listed}
use Rattle.dp_heap.proofs.Laid.{all_decoded, laid_as}
use Rattle.dp_heap.proofs.Kept.{stay}
use Rattle.dp_heap.proofs.Cut.{kept_here, e_bound}
use Rattle.dp_heap.proofs.Found.{e_header}
use Rattle.dp_heap.proofs.Belong.{Member, member, single, once}
use Rattle.dp_heap.proofs.Links.{head_in}

-- writes elsewhere keep the lists and the elements
pub relinked : (r : RegionView) → IsLaid r → (ys : List ℕ) → length ys ≡ length r.bytes →
    ((k : ℕ) → k + 4 ≤ length r.bytes → k % 64 ≤ 12 → number_at ys k 4 ≡ number_at r.bytes k 4)
    → IsLaid (record r { bytes = ys }) × (elements_in ys ≡ elements_in r.bytes)
relinked r laid ys long same =
    let most = laid.size.1 in let w = stay r.bytes ys (elements_in r.bytes) 0 (length r.bytes) 0 laid.laid laid.kept (λ q _ room low. same q room low) in
    let l : Laid ys 0 (length ys) (elements_in r.bytes) = rw long w.0 in (
      laid_as ys r.home (elements_in r.bytes) r.lent (rw long laid.size) l laid.lends w.1,
      all_decoded ys (elements_in r.bytes) l,
    )

-- a word that holds a link is none of the others
pub linking : (p k j : ℕ) → p % 64 ≡ 0 → k % 64 ≤ 12 → 16 ≤ j → j ≤ 60 → (k + 4 ≤ p + j) ⊎ (p + j + 4 ≤ k)
linking p k j a b c d = grind arith

-- an element's header
pub record Header (r : RegionView) (p : ℕ) : Type 0 where
  pub step : p % 64 ≡ 0
  pub room : p + 64 ≤ length r.bytes
  pub unlent : IsUnlent r.lent p 64

pub header_of : (r : RegionView) → IsLaid r → (before : List Element) (e : Element) (after : List Element) → elements_in r.bytes ≡ before ++ e ∷ after →
    Header r e.offset
header_of r laid before e after split =
    let b = e_bound r laid before e after split in let low = b.0 in let some = b.1 in
    record { step = (kept_here r laid before e after split).shape.offset_step; room = omega arith; unlent = e_header r laid before e after split }

module _ (r : RegionView) (laid : IsLaid r) (heads : List ℕ) (off : List Element) (w : Listed r.bytes heads (elements_in r.bytes) off) where
  pub member_of : (c p : ℕ) → 1 ≤ times p (w.lists c) → Member c p (elements_in r.bytes)
  member_of c p h = let count = w.counted c p in member c p (elements_in r.bytes) (omega arith)

  pub listed_header : (c p : ℕ) → 1 ≤ times p (w.lists c) → Header r p
  listed_header c p h = let m = member_of c p h in subst (Header r) m.counted.at (header_of r laid m.before m.it m.after m.split)

  pub few : (c p : ℕ) → times p (w.lists c) + belong c p off ≤ 1
  few c p = let count = w.counted c p in let o = once r.bytes c p (elements_in r.bytes) 0 (length r.bytes) laid.laid in omega arith

  pub other_list : (c d p : ℕ) → (c ≡ d → ⊥) → 1 ≤ times p (w.lists c) + belong c p off → times p (w.lists d) ≡ 0
  other_list c d p differ h =
      let one = w.counted c p in let two = w.counted d p in
      let s = single r.bytes c d p differ (elements_in r.bytes) 0 (length r.bytes) laid.laid in omega arith

  -- the first of a list, if it has one
  pub head_of : (c : ℕ) → c < 5 → (slice_index heads c ≡ none) ⊎ (1 ≤ times (slice_index heads c) (w.lists c))
  head_of c h = head_in r.bytes none (slice_index heads c) (w.lists c) (w.linked c h)

  -- a link is the offset of a listed element, or the end
  pub link_header : (c p : ℕ) → (p ≡ none) ⊎ (1 ≤ times p (w.lists c)) → p < length r.bytes → Header r p
  link_header c p is in_it = ⊎_elim (λ z. let most = laid.size.1 in absurd (omega arith)) (λ h. listed_header c p h) is

  pub link_listed : (c p : ℕ) → (p ≡ none) ⊎ (1 ≤ times p (w.lists c)) → p < length r.bytes → 1 ≤ times p (w.lists c)
  link_listed c p is in_it = ⊎_elim (λ z. let most = laid.size.1 in absurd (omega arith)) (λ h. h) is

  pub link_small : (c p : ℕ) → (p ≡ none) ⊎ (1 ≤ times p (w.lists c)) → p < 2 ^ 32
  link_small c p is = ⊎_elim (λ z. let few : none < 2 ^ 32 = lit< tt in omega arith) (λ h. let k = (listed_header c p h).room in
      let most = laid.size.1 in omega arith) is

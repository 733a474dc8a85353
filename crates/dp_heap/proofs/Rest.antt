-- The elements that a walk has not reached yet.
use Rattle.std.proofs.Common.{◌≡◌, ℕ, ◌+◌, ◌/◌, ◌<◌, ◌≤◌, List, [], ◌∷◌, ◌++◌, length, refl, sym, ap, ◌∙◌, arith}
use Rattle.dp_region.specs.Region.{RegionView}
use Rattle.dp_heap.specs.declared.elements.Element.{Element}
use Rattle.dp_heap.specs.Elements.{end_of}
use Rattle.dp_heap.specs.Laid.{element_at, elements_from, Laid, IsLaid, IsReached}
use Rattle.dp_heap.proofs.Laid.{first_offset, laid_bound, decoded}
use Rattle.dp_heap.proofs.Reached.{Next, next_laid}

abbrev pub rest_of : RegionView → ℕ → List Element
rest_of r p = elements_from (length r.bytes / 64) p r.bytes

pub rest_is : (r : RegionView) (p : ℕ) (w : IsReached r p) → rest_of r p ≡ w.after
rest_is r p w = decoded r.bytes w.after (length r.bytes / 64) p w.laid (omega arith)

pub nothing_left : (r : RegionView) (p : ℕ) (w : IsReached r p) → length r.bytes ≤ p → rest_of r p ≡ []
nothing_left r p w le = rest_is r p w ∙ none w.after w.laid
  where
    none : (es : List Element) → Laid r.bytes p (length r.bytes) es → es ≡ []
    none [] l = refl
    none (e ∷ es) l = let at = first_offset r.bytes e p l.read in let some = l.large in
        let bound = laid_bound r.bytes es (end_of e) (length r.bytes) l.rest in absurd (omega arith)

module _ (r : RegionView) (laid : IsLaid r) (p : ℕ) (w : IsReached r p) (more : p < length r.bytes) where
  pub next : Next r p w.before w.after
  next = next_laid r p w.before w.after laid (record { split = w.split; laid = w.laid }) more

  pub reached : IsReached r (p + (element_at r.bytes p).size)
  reached = let n = next in record { before = w.before ++ element_at r.bytes p ∷ []; after = n.rest; split = n.more.split; laid = n.more.laid }

  pub rest_next : rest_of r p ≡ element_at r.bytes p ∷ rest_of r (p + (element_at r.bytes p).size)
  unfolding next reached
  rest_next = let n = next in rest_is r p w ∙ n.is ∙ ap (λ (es : List Element). element_at r.bytes p ∷ es)
      (sym (rest_is r (p + (element_at r.bytes p).size) reached))

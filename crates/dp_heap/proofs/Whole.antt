-- A heap with no block out is one free element.
use Rattle.std.proofs.Common.{◌≡◌, ℕ, ◌+◌, ◌<◌, Bool, true, false, cond, ◌&&◌, List, [], ◌∷◌, ◌∙◌, length, IsTrue, sym, ap, refl, arith}
use Rattle.std.specs.Prelude.{not}
use Rattle.std.proofs.lemmas.Bool.{true≢false}
use Rattle.dp_heap.specs.declared.elements.Element.{Element}
use Rattle.dp_heap.specs.declared.elements.State.TheVariants.{Free}
use Rattle.dp_heap.specs.Elements.{is_free, is_busy, count_of, apart}
use Rattle.dp_heap.specs.Laid.{Laid, Kept}
use Rattle.dp_heap.proofs.Laid.{first_offset}
use Rattle.dp_heap.proofs.Undo.{is_open, open_same}

none_busy : (b : Bool) (n : ℕ) → cond (not b) 1 0 + n ≡ 0 → (b ≡ true) × (n ≡ 0)
none_busy true n none = (refl, let same : 0 + n ≡ 0 = none in omega arith)
none_busy false n none = absurd (let same : 1 + n ≡ 0 = none in omega arith)

-- two free elements would be neighbours
not_two : (a b : Bool) (rest : Bool) → a ≡ true → b ≡ true → (not (a && b) && rest) ≡ true → ⊥
not_two true true rest x y z = true≢false (sym z)
not_two true false rest x y z = true≢false (sym y)
not_two false b rest x y z = true≢false (sym x)

module _ (xs : List ℕ) (some : 0 < length xs) where
  pub whole : (es : List Element) → Laid xs 0 (length xs) es → Kept xs 0 es → IsTrue (apart es) → count_of is_busy es ≡ 0 →
      es ≡ record { offset = 0; size = length xs; state = Free; pad = 0 } ∷ []
  whole [] laid kept off none = absurd (let empty : 0 ≡ length xs = laid in omega arith)
  whole (e ∷ []) laid kept off none =
      let free = (none_busy (is_free e) 0 none).0 in let offset = first_offset xs e 0 laid.read in
      let size : e.size ≡ length xs = (let end : e.offset + e.size ≡ length xs = laid.rest in omega arith) in
      ap (λ (x : Element). x ∷ []) (is_open e free (kept.shape.no_pad free) ∙ open_same e.offset e.size 0 (length xs) offset size)
  whole (e ∷ x ∷ es) laid kept off none =
      let first = none_busy (is_free e) (count_of is_busy (x ∷ es)) none in let second = none_busy (is_free x) (count_of is_busy es) first.1 in
      absurd (not_two (is_free e) (is_free x) (apart (x ∷ es)) first.0 second.0 off)

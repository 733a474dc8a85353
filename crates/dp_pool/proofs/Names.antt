-- Removing a name from the end of a table.
use Rattle.std.proofs.Common.{◌≡◌, ℕ, true, false, cond, ◌&&◌, List, [], ◌∷◌, ◌++◌, refl, ap, ◌∙◌}
use Rattle.std.proofs.lemmas.Bool.{or_parts, eq-eqb}
use Rattle.dp_heap.specs.Elements.{merged}
use Rattle.dp_heap.specs.Laid.{HeapView}
use Rattle.dp_zone.specs.Names.{same_name}
use Rattle.dp_zone.specs.Zones.{Reserved, is_named, has_name, without_name}

same_name_refl : (name : List ℕ) → same_name name name ≡ true
same_name_refl [] = refl
same_name_refl (b ∷ name) = ap (λ t. t && same_name name name) (eq-eqb b b refl) ∙ same_name_refl name

-- giving back what was reserved last
pub without_last : (name : List ℕ) (table : List Reserved) (r : Reserved) → has_name name table ≡ false → r.name ≡ name → without_name name (table ++ r ∷ [])
    ≡ table
without_last name [] r fresh is = ap (λ t. cond t [] (r ∷ [])) (ap (λ n. same_name n name) is ∙ same_name_refl name)
without_last name (s ∷ table) r fresh is =
    let parts = or_parts (is_named name s) (has_name name table) fresh in
    ap (λ t. cond t (table ++ r ∷ []) (s ∷ without_name name (table ++ r ∷ []))) parts.0 ∙ ap (λ rest. s ∷ rest) (without_last name table r parts.1 is)

-- ---- giving a block back to a heap

abbrev pub given_back : ℕ → HeapView → HeapView
given_back offset h = record { home = h.home; elements = merged offset h.elements }

pub as_before : (offset : ℕ) (old new : HeapView) → new.home ≡ old.home → merged offset new.elements ≡ old.elements → given_back offset new ≡ old
as_before offset old new home undone = λ i. record { home = home i; elements = undone i }

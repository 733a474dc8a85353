-- The captures of one more port.
use Rattle.std.proofs.Common.{◌≡◌, ℕ, zero, suc, ◌+◌, List, [], ◌∷◌, ◌++◌, Some, map, take, ap, sym, ◌∙◌, add-one, arith}
use Rattle.std.specs.Prelude.{slice_get}
use Rattle.std.proofs.lemmas.List.{map-append}
use Rattle.std.proofs.lemmas.Option.{same_Some}
use Rattle.dp_captures.specs.{declared.words.Place.Place, declared.words.Replaced.Replaced, Names.captures_from, Words.capture_at}

further : (given : List Replaced) (k : ℕ) (names : List (List ℕ)) (i port : ℕ) (name : List ℕ) → port ≡ i + k → slice_get names i ≡ Some name
    → captures_from given k (take (suc i) names) ≡ captures_from given k (take i names) ++ capture_at given port name ∷ []
further given k [] i port name at e = cc
further given k (n ∷ names) zero port name at e =
    let same : k ≡ port = omega (arith, at) in
    ap (λ m. capture_at given k m ∷ []) (same_Some n name e) ∙ ap (λ p. capture_at given p name ∷ []) same
further given k (n ∷ names) (suc i) port name at e =
    ap (λ l. capture_at given k n ∷ l) (further given (suc k) names i port name (omega (arith, at)) e)

-- the capture of one more port
pub captures_more : {A : Type 0} (capture_of : A → Place × List ℕ) (given : List Replaced) (names : List (List ℕ)) (ports : List A) (i : ℕ)
    (name : List ℕ) (more : A) → slice_get names i ≡ Some name → capture_of more ≡ capture_at given i name
    → map capture_of ports ≡ captures_from given 0 (take i names)
    → map capture_of (ports ++ more ∷ []) ≡ captures_from given 0 (take (i + 1) names)
captures_more capture_of given names ports i name more here is so_far =
    map-append capture_of ports (more ∷ []) ∙ ap (λ (l : List (Place × List ℕ)). l ++ capture_of more ∷ []) so_far
    ∙ ap (λ (c : Place × List ℕ). captures_from given 0 (take i names) ++ c ∷ []) is ∙ sym (further given 0 names i i name (omega arith) here)
    ∙ ap (λ (n : ℕ). captures_from given 0 (take n names)) (sym (add-one i))

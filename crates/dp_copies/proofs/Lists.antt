-- Lists that differ at one index, and lists of empty lists.
use Rattle.std.proofs.Common.{◌≡◌, ◌≢◌, ℕ, zero, suc, List, [], ◌∷◌, map, Some, refl, ◌∙◌, ap, arith}
use Rattle.std.specs.Prelude.{slice_get, slice_set}
use Rattle.std.proofs.lemmas.Option.{same_Some}

-- two functions that differ at one index of a list
pub map_one : {X Y : Type 0} (f g : X → Y) (xs : List X) (p : ℕ) (x : X) → slice_get xs p ≡ Some x →
    ((i : ℕ) (u : X) → i ≢ p → slice_get xs i ≡ Some u → g u ≡ f u) → map g xs ≡ slice_set (map f xs) p (g x)
map_one f g [] p x h others = cc
map_one f g (y ∷ xs) zero x h others =
    ap (λ u. g u ∷ map g xs) (same_Some y x h) ∙ ap (λ us. g x ∷ us) (rest xs (λ i u. others (suc i) u (λ e. absurd (omega (arith, e)))))
  where
    rest : (us : List _) → ((i : ℕ) (u : _) → slice_get us i ≡ Some u → g u ≡ f u) → map g us ≡ map f us
    rest [] same = refl
    rest (u ∷ us) same = ap (λ v. v ∷ map g us) (same 0 u refl) ∙ ap (λ vs. f u ∷ vs) (rest us (λ i. same (suc i)))
map_one f g (y ∷ xs) (suc p) x h others =
    ap (λ v. v ∷ map g xs) (others 0 y (λ e. absurd (omega (arith, e))) refl)
    ∙ ap (λ vs. f y ∷ vs) (map_one f g xs p x h (λ i u ne. others (suc i) u (λ e. ne (omega (arith, e)))))

-- the same with that index set
pub set_one : {X Y : Type 0} (f g : X → Y) (xs : List X) (p : ℕ) (y : Y) → ((i : ℕ) (u : X) → i ≢ p → slice_get xs i ≡ Some u → g u ≡ f u) →
    slice_set (map g xs) p y ≡ slice_set (map f xs) p y
set_one f g [] p y others = refl
set_one f g (x ∷ xs) zero y others = ap (λ ys. y ∷ ys) (rest xs (λ i u. others (suc i) u (λ e. absurd (omega (arith, e)))))
  where
    rest : (us : List _) → ((i : ℕ) (u : _) → slice_get us i ≡ Some u → g u ≡ f u) → map g us ≡ map f us
    rest [] same = refl
    rest (u ∷ us) same = ap (λ v. v ∷ map g us) (same 0 u refl) ∙ ap (λ vs. f u ∷ vs) (rest us (λ i. same (suc i)))
set_one f g (x ∷ xs) (suc p) y others =
    ap (λ v. v ∷ slice_set (map g xs) p y) (others 0 x (λ e. absurd (omega (arith, e))) refl)
    ∙ ap (λ vs. f x ∷ vs) (set_one f g xs p y (λ i u ne. others (suc i) u (λ e. ne (omega (arith, e)))))

-- emptying the lists of packets empties those of copies
pub empty_lists : {X Y : Type 0} (f : X → Y) (lists : List (List X)) → map (λ _. []) (map (map f) lists) ≡ map (map f) (map (λ _. []) lists)
empty_lists f [] = refl
empty_lists f (l ∷ lists) = ap (λ rest. [] ∷ rest) (empty_lists f lists)

-- a list of empty lists
pub no_lists : {X Y Z : Type 0} (f : X → Y) (zs : List Z) → map (λ _. []) zs ≡ map (map f) (map (λ _. []) zs)
no_lists f [] = refl
no_lists f (z ∷ zs) = ap (λ rest. [] ∷ rest) (no_lists f zs)

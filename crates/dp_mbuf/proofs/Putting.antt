-- Bytes written one after the other.
use Rattle.std.proofs.Common.{◌≡◌, ℕ, zero, suc, ◌+◌, ◌<◌, ◌≤◌, List, [], ◌∷◌, ◌++◌, length, refl, ap, ◌∙◌, arith, set}
use Rattle.dp_model.specs.Buffers.{overwritten}
use Rattle.dp_model.specs.Laws.Stored.{length_overwritten}

pub set_one : (o : List ℕ) (at x : ℕ) → at < length o → set o at x ≡ overwritten o at (x ∷ [])
set_one [] at x h = absurd (omega (arith, h))
set_one (z ∷ o) zero x h = refl
set_one (z ∷ o) (suc at) x h =
    let e : suc at + 1 ≡ suc (at + 1) = omega arith in
    rw e (ap (λ t. z ∷ t) (set_one o at x (omega (arith, h))))

-- bytes after others
pub after_others : (o xs ys : List ℕ) (at k : ℕ) → k ≡ at + length xs → k + length ys ≤ length o → overwritten (overwritten o at xs) k ys
    ≡ overwritten o at (xs ++ ys)
after_others [] [] [] zero zero e h = refl
after_others [] [] [] zero (suc k) e h = absurd (omega (arith, e))
after_others [] [] [] (suc at) k e h = absurd (omega (arith, e, h))
after_others [] [] (y ∷ ys) at k e h = absurd (omega (arith, h))
after_others [] (x ∷ xs) ys at k e h = absurd (omega (arith, e, h))
after_others (z ∷ o) [] ys zero zero e h = refl
after_others (z ∷ o) [] ys zero (suc k) e h = absurd (omega (arith, e))
after_others (z ∷ o) (x ∷ xs) ys zero zero e h = absurd (omega (arith, e))
after_others (z ∷ o) (x ∷ xs) ys zero (suc k) e h =
    let a : 0 + suc (length xs) ≡ suc (0 + length xs) = omega arith in
    let b : 0 + suc (length (xs ++ ys)) ≡ suc (0 + length (xs ++ ys)) = omega arith in
    let c : suc k + length ys ≡ suc (k + length ys) = omega arith in
    rw (a, b, c) (ap (λ t. x ∷ t) (after_others o xs ys zero k (omega (arith, e)) (omega (arith, h))))
after_others (z ∷ o) xs ys (suc at) zero e h = absurd (omega (arith, e))
after_others (z ∷ o) xs ys (suc at) (suc k) e h =
    let a : suc at + length xs ≡ suc (at + length xs) = omega arith in
    let b : suc at + length (xs ++ ys) ≡ suc (at + length (xs ++ ys)) = omega arith in
    let c : suc k + length ys ≡ suc (k + length ys) = omega arith in
    rw (a, b, c) (ap (λ t. z ∷ t) (after_others o xs ys at k (omega (arith, e)) (omega (arith, h))))

pub set_two : (o : List ℕ) (at x y : ℕ) → at + 2 ≤ length o → set (set o at x) (at + 1) y ≡ overwritten o at (x ∷ y ∷ [])
set_two o at x y h =
    let first = set_one o at x (omega (arith, h)) in
    let long = length_overwritten o (x ∷ []) at (omega (arith, h)) in
    ap (λ t. set t (at + 1) y) first
    ∙ (set_one (overwritten o at (x ∷ [])) (at + 1) y (omega (arith, h, long)) ∙ after_others o (x ∷ []) (y ∷ []) at (at + 1) (omega arith) (omega (arith, h)))

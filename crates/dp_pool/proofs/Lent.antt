-- A pool after an object's bytes were lent for writing, whatever their number.
use Rattle.std.proofs.Common.{◌≡◌, ℕ, zero, suc, ◌+◌, ◌<◌, ◌≤◌, List, [], ◌∷◌, ◌++◌, length, take, drop, refl, sym, ap, ap₂, ◌∙◌, arith, rules, drop-drop}
use Rattle.std.specs.Prelude.{slice_index_or, slice_set}
use Rattle.std.proofs.lemmas.List.{places, same_lists, take_all, drop_all}
use Rattle.dp_region.specs.Spans.{bytes_in, refilled, overlaid}
use Rattle.dp_pool.specs.Pools.{stride_of, objects_from, object_offset, spilled}
use Rattle.dp_pool.proofs.Objects.{offset_from, offset_within, stride_covers}

-- the bytes after the offset are the old ones with the rest of ws over them
bytes_in-beyond : (xs : List ℕ) (p d n : ℕ) (ws : List ℕ) → p + d + n ≤ length xs → bytes_in (overlaid xs p ws) (p + d) n
    ≡ refilled (bytes_in xs (p + d) n) (drop d ws)
bytes_in-beyond xs p d n ws fits = same_lists _ _ (search (rules, places)) (λ k e h. grind (arith, places))

-- the bytes before it stay
bytes_in-before : (xs : List ℕ) (p q n : ℕ) (ws : List ℕ) → q + n ≤ p → p ≤ length xs → bytes_in (overlaid xs p ws) q n ≡ bytes_in xs q n
bytes_in-before xs p q n ws before fits = same_lists _ _ (search (rules, places)) (λ k e h. grind (arith, places))

-- the objects after it have the rest of ws over them
objects_after : (xs : List ℕ) (size p d n : ℕ) (ws : List ℕ) → object_offset size (p + d) n ≤ length xs → objects_from (overlaid xs p ws) size (p + d) n
    ≡ spilled (stride_of size) (objects_from xs size (p + d) n) (drop d ws)
objects_after xs size p d zero ws fits = refl
objects_after xs size p d (suc n) ws fits =
    let high = offset_from size (p + d + stride_of size) n in
    let covers = stride_covers size in
    let next : p + d + stride_of size ≡ p + (d + stride_of size) = omega arith in
    let rest : drop (d + stride_of size) ws ≡ drop (stride_of size) (drop d ws) = sym (drop-drop (stride_of size) d ws) in
    ap₂ (λ (o : List ℕ) (os : List (List ℕ)). o ∷ os)
    (bytes_in-beyond xs p d size ws (omega (arith, high, covers, fits)))
    (ap (λ q. objects_from (overlaid xs p ws) size q n) next
    ∙ (objects_after xs size p (d + stride_of size) n ws (rw next at fits)
    ∙ (ap (λ l. spilled (stride_of size) (objects_from xs size (p + (d + stride_of size)) n) l) rest
    ∙ ap (λ q. spilled (stride_of size) (objects_from xs size q n) (drop (stride_of size) (drop d ws))) (sym next))))

-- one object of the list has ws over it
pub objects_left : (xs : List ℕ) (size q n i : ℕ) (ws : List ℕ) → i < n → object_offset size q n ≤ length xs
    → objects_from (overlaid xs (object_offset size q i) ws) size q n ≡ take i (objects_from xs size q n)
    ++ spilled (stride_of size) (drop i (objects_from xs size q n)) ws
objects_left xs size q zero i ws less fits = absurd (omega (arith, less))
objects_left xs size q (suc n) zero ws less fits =
    let here : q + 0 ≡ q = omega arith in
    rw here at (objects_after xs size q 0 (suc n) ws (rw here fits))
objects_left xs size q (suc n) (suc i) ws less fits =
    let low = offset_from size (q + stride_of size) i in
    let high = offset_within size (q + stride_of size) n i (omega (arith, less)) in
    let covers = stride_covers size in
    ap₂ (λ (o : List ℕ) (os : List (List ℕ)). o ∷ os)
    (bytes_in-before xs (object_offset size (q + stride_of size) i) q size ws (omega (arith, low, covers)) (omega (arith, high, fits)))
    (objects_left xs size (q + stride_of size) n i ws (omega (arith, less)) fits)

-- ---- ws has the length of the object

refilled-none : (xs : List ℕ) → refilled xs [] ≡ xs
refilled-none xs = take_all (length xs) xs (omega arith)

spilled-none : (stride : ℕ) (os : List (List ℕ)) → spilled stride os [] ≡ os
spilled-none stride [] = refl
spilled-none stride (o ∷ os) =
    ap₂ (λ (o : List ℕ) (os : List (List ℕ)). o ∷ os) (refilled-none o) (ap (spilled stride os) (drop_all stride [] (omega arith)) ∙ spilled-none stride os)

refilled-whole : (xs ws : List ℕ) → length ws ≡ length xs → refilled xs ws ≡ ws
refilled-whole xs ws e = same_lists _ _ (search (rules, places)) (λ k d h. grind (arith, places))

-- ws becomes that object, and no other changes
pub left_whole : (os : List (List ℕ)) (stride i : ℕ) (ws : List ℕ) → i < length os → length ws ≡ length (slice_index_or os i []) → length ws ≤ stride →
    take i os ++ spilled stride (drop i os) ws ≡ slice_set os i ws
left_whole [] stride i ws less e fits = absurd (omega (arith, less))
left_whole (o ∷ os) stride zero ws less e fits =
    ap₂ (λ (o : List ℕ) (os : List (List ℕ)). o ∷ os) (refilled-whole o ws e) (ap (spilled stride os) (drop_all stride ws fits) ∙ spilled-none stride os)
left_whole (o ∷ os) stride (suc i) ws less e fits = ap (λ (os : List (List ℕ)). o ∷ os) (left_whole os stride i ws (omega (arith, less)) e fits)

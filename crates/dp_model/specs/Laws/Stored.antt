-- Internal: the bytes of buffers after one of them is written.
use Rattle.std.proofs.Common.{◌≡◌, ◌≢◌, ℕ, zero, suc, ◌+◌, ◌-◌, ◌≤◌, true, List, [], ◌∷◌, ◌++◌, refl, ◌∙◌, ap, arith, ◌<◌, false, length, sym, subst, get_or}
use Rattle.std.proofs.Common.{Bool, set, ⊎_elim, ◌⊎◌, take, drop, inl, inr, length-append, length-take, length-drop}
use Rattle.std.proofs.lemmas.Bool.{eq-eqb, and_from, and_parts, eqb-true, cases_eq, cases_lt, both_ways, cases_Bool, or_parts}
use Rattle.std.proofs.Math.ListN.{get_or-append}
use Rattle.std.specs.Prelude.{slice_range}
use Rattle.std.specs.List.{AllByRecursion}
use Rattle.std.proofs.lemmas.List.{get_or-set_same, get_or-set_other, set_past, get_or-append-add, get_or-take, get_or-drop, length-take-le, ext_get_or}
use Rattle.dp_model.specs.Buffers.{Number, same_number, Buffers, bytes_of, with_bytes, overwritten, written, ChangesOnly}
use Rattle.dp_model.specs.Laws.Lists.{all_join, all_take, all_drop}

-- a number is the same as itself
pub same_number_refl : (n : Number) → same_number n n ≡ true
same_number_refl n = and_from _ _ (eq-eqb n.pool n.pool refl) (eq-eqb n.index n.index refl)

-- numbers with equal parts are equal
pub number_path : (a b : Number) → a.pool ≡ b.pool → a.index ≡ b.index → a ≡ b
number_path a b p q = λ i. record { pool = p i; index = q i }

-- numbers that are the same are equal
pub same_is : (a b : Number) → same_number a b ≡ true → a ≡ b
same_is a b h =
    let t = and_parts _ _ h in
    number_path a b (eqb-true a.pool b.pool t.0) (eqb-true a.index b.index t.1)

-- `same_number` is symmetric
pub same_number_sym : (a b : Number) → same_number a b ≡ same_number b a
same_number_sym a b = go (same_number a b) (same_number b a) refl refl
  where
    go : (x y : Bool) → same_number a b ≡ x → same_number b a ≡ y → x ≡ y
    go true true e f = refl
    go false false e f = refl
    go true false e f = let yes : same_number b a ≡ true = ap (λ m. same_number m a) (sym (same_is a b e)) ∙ same_number_refl a in cc
    go false true e f = let yes : same_number a b ≡ true = ap (λ m. same_number m b) (sym (same_is b a f)) ∙ same_number_refl b in cc

inner : (xs : List (List ℕ)) (i j : ℕ) (bytes : List ℕ) → i ≢ j → get_or (set xs i bytes) j [] ≡ get_or xs j []
inner xs i j bytes apart = get_or-set_other xs i j bytes [] (λ e. apart (sym e))

-- the bytes of another buffer stay
pub bytes_other : (buffers : Buffers) (n b : Number) (bytes : List ℕ) → same_number n b ≡ false → bytes_of (with_bytes buffers n bytes) b ≡ bytes_of buffers b
bytes_other buffers n b bytes h = ⊎_elim
    (λ same. ⊎_elim
    (λ within.
    let e : get_or (set buffers n.pool (set (get_or buffers n.pool []) n.index bytes)) b.pool [] ≡ set (get_or buffers n.pool []) n.index bytes =
    ap (λ p. get_or (set buffers n.pool (set (get_or buffers n.pool []) n.index bytes)) p []) (sym same)
    ∙ get_or-set_same buffers n.pool (set (get_or buffers n.pool []) n.index bytes) [] within in
    let apart : n.index ≢ b.index = λ i. both_ways (same_number n b) h (and_from _ _ (eq-eqb n.pool b.pool same) (eq-eqb n.index b.index i)) in
    ap (λ xs. get_or xs b.index []) e ∙ inner (get_or buffers n.pool []) n.index b.index bytes apart ∙ ap (λ p. get_or (get_or buffers p []) b.index []) same)
    (λ past. ap (λ bs. bytes_of bs b) (set_past buffers n.pool (set (get_or buffers n.pool []) n.index bytes) past))
    (cases_lt n.pool (length buffers)))
    (λ apart. ap (λ xs. get_or xs b.index []) (get_or-set_other buffers n.pool b.pool _ [] (λ e. apart (sym e))))
    (cases_eq n.pool b.pool)

-- a buffer with bytes exists
there_inside : (xs : List (List ℕ)) (i : ℕ) → 0 < length (get_or xs i []) → i < length xs
there_inside [] i h = absurd (omega arith)
there_inside (x ∷ xs) zero h = omega arith
there_inside (x ∷ xs) (suc i) h = omega (arith, there_inside xs i h)

there_outside : (buffers : Buffers) (p i : ℕ) → 0 < length (get_or (get_or buffers p []) i []) → p < length buffers
there_outside [] p i h = absurd (omega arith)
there_outside (x ∷ xs) zero i h = omega arith
there_outside (x ∷ xs) (suc p) i h = omega (arith, there_outside xs p i h)

-- the new bytes of a buffer, if it exists
pub bytes_same : (buffers : Buffers) (n : Number) (bytes : List ℕ) → 0 < length (bytes_of buffers n) → bytes_of (with_bytes buffers n bytes) n ≡ bytes
bytes_same buffers n bytes some =
    ap (λ xs. get_or xs n.index [])
    (get_or-set_same buffers n.pool (set (get_or buffers n.pool []) n.index bytes) [] (there_outside buffers n.pool n.index some))
    ∙ get_or-set_same (get_or buffers n.pool []) n.index bytes [] (there_inside (get_or buffers n.pool []) n.index some)

-- a buffer that is written has the new bytes, or does not exist
pub bytes_either : (buffers : Buffers) (n : Number) (bytes : List ℕ)
    → (bytes_of (with_bytes buffers n bytes) n ≡ bytes) ⊎ (bytes_of (with_bytes buffers n bytes) n ≡ bytes_of buffers n)
bytes_either buffers n bytes = ⊎_elim
    (λ there. ⊎_elim
    (λ within. inl (ap (λ xs. get_or xs n.index []) (get_or-set_same buffers n.pool (set (get_or buffers n.pool []) n.index bytes) [] there)
    ∙ get_or-set_same (get_or buffers n.pool []) n.index bytes [] within))
    (λ past. inr (ap (λ xs. get_or xs n.index []) (get_or-set_same buffers n.pool (set (get_or buffers n.pool []) n.index bytes) [] there)
    ∙ ap (λ xs. get_or xs n.index []) (set_past (get_or buffers n.pool []) n.index bytes past)))
    (cases_lt n.index (length (get_or buffers n.pool []))))
    (λ past. inr (ap (λ bs. bytes_of bs n) (set_past buffers n.pool (set (get_or buffers n.pool []) n.index bytes) past)))
    (cases_lt n.pool (length buffers))

-- what holds of the old bytes and of those that are written holds of each buffer
pub written_each : (P : List ℕ → Type 0) (buffers : Buffers) (n b : Number) (bytes : List ℕ) → P (bytes_of buffers b) → (n ≡ b → P bytes)
    → P (bytes_of (with_bytes buffers n bytes) b)
written_each P buffers n b bytes old new = ⊎_elim
    (λ yes. let e = same_is n b yes in ⊎_elim
    (λ is. subst P (sym (ap (bytes_of (with_bytes buffers n bytes)) (sym e) ∙ is)) (new e))
    (λ is. subst P (sym (ap (bytes_of (with_bytes buffers n bytes)) (sym e) ∙ (is ∙ ap (bytes_of buffers) e))) old)
    (bytes_either buffers n bytes))
    (λ no. subst P (sym (bytes_other buffers n b bytes no)) old)
    (cases_Bool (same_number n b))

-- overwriting keeps the length
pub length_overwritten : (old new : List ℕ) (start : ℕ) → start + length new ≤ length old → length (overwritten old start new) ≡ length old
length_overwritten old new start h =
    omega (
      arith,
      length-append (take start old) (new ++ drop (start + length new) old),
      length-append new
          (drop (start + length new) old),
      length-take start old,
      length-drop (start + length new) old,
    )

-- a write within a buffer changes that buffer only
pub write_changes : (old : Buffers) (n : Number) (offset : ℕ) (new : List ℕ) → offset + length new ≤ length (bytes_of old n) →
    AllByRecursion (λ x. x < 256) new → ChangesOnly (n ∷ []) old (written old n offset new)
write_changes old n offset new fits small =
    let bytes = overwritten (bytes_of old n) offset new in
    record {
      others = λ b apart. bytes_other old n b bytes (same_number_sym n b ∙ (or_parts (same_number b n) false apart).0);
      lengths = λ b. written_each (λ xs. length xs ≡ length (bytes_of old b)) old n b bytes refl (λ e. length_overwritten (bytes_of old n) new offset fits
          ∙ ap (λ m. length (bytes_of old m)) e);
      bytes = λ well b. written_each (AllByRecursion (λ x. x < 256)) old n b bytes (well b)
          (λ e. all_join (λ x. x < 256) (take offset (bytes_of old n)) (new
          ++ drop (offset + length new) (bytes_of old n)) (all_take offset (bytes_of old n) (well n))
          (all_join (λ x. x < 256) new (drop (offset + length new) (bytes_of old n)) small (all_drop (offset + length new) (bytes_of old n) (well n))));
    }

-- a byte before the write stays
overwritten_before : (old new : List ℕ) (start k : ℕ) → start ≤ length old → k < start → get_or (overwritten old start new) k 0 ≡ get_or old k 0
overwritten_before old new start k fits less =
    let front : length (take start old) ≡ start = length-take-le start old fits in
    get_or-append (take start old) (new ++ drop (start + length new) old) 0 k (omega (arith, front, less))
    ∙ get_or-take start old k 0 less

-- a byte that is written is the new one
overwritten_in : (old new : List ℕ) (start k : ℕ) → start ≤ length old → start ≤ k → k < start + length new
    → get_or (overwritten old start new) k 0 ≡ get_or new (k - start) 0
overwritten_in old new start k fits from to =
    let front : length (take start old) ≡ start = length-take-le start old fits in
    let at : k ≡ length (take start old) + (k - start) = omega (arith, front, from) in
    ap (λ j. get_or (overwritten old start new) j 0) at
    ∙ get_or-append-add (take start old) (new ++ drop (start + length new) old) (k - start) 0
    ∙ get_or-append new (drop (start + length new) old) 0 (k - start) (omega (arith, from, to))

-- a byte after it stays
overwritten_after : (old new : List ℕ) (start k : ℕ) → start ≤ length old → start + length new ≤ k
    → get_or (overwritten old start new) k 0 ≡ get_or old k 0
overwritten_after old new start k fits past =
    let front : length (take start old) ≡ start = length-take-le start old fits in
    let rest : ℕ = k - start - length new in
    let at : k ≡ length (take start old) + (length new + rest) = omega (arith, front, past) in
    let again : start + length new + rest ≡ k = omega (arith, past) in
    ap (λ j. get_or (overwritten old start new) j 0) at
    ∙ get_or-append-add (take start old) (new ++ drop (start + length new) old) (length new + rest) 0
    ∙ get_or-append-add new (drop (start + length new) old) rest 0
    ∙ get_or-drop (start + length new) old rest 0
    ∙ ap (λ j. get_or old j 0) again

-- a byte of a part
range_at : (xs : List ℕ) (offset len k : ℕ) → k < len → get_or (slice_range xs offset (offset + len)) k 0 ≡ get_or xs (offset + k) 0
range_at xs offset len k less = get_or-take (offset + len - offset) (drop offset xs) k 0 (omega (arith, less)) ∙ get_or-drop offset xs k 0

-- a part has as many bytes as requested
range_long : (xs : List ℕ) (offset len : ℕ) → offset + len ≤ length xs → length (slice_range xs offset (offset + len)) ≡ len
range_long xs offset len fits =
    let many : length (slice_range xs offset (offset + len)) ≡ offset + len - offset = length-take-le (offset + len - offset) (drop offset xs)
    (omega (arith, length-drop offset xs, fits)) in
    omega (arith, many)

-- a part that is overwritten within
pub range_overwritten : (old new : List ℕ) (offset len start : ℕ) → start + length new ≤ len → offset + len ≤ length old
    → slice_range (overwritten old (offset + start) new) offset (offset + len) ≡ overwritten (slice_range old offset (offset + len)) start new
range_overwritten old new offset len start short long =
    ext_get_or 0 (slice_range written offset (offset + len)) (overwritten part start new) (omega (arith, left, right, many))
    (λ k h. each k (omega (arith, h, left)))
  where
    written : List ℕ
    written = overwritten old (offset + start) new

    part : List ℕ
    part = slice_range old offset (offset + len)

    many : length part ≡ len
    many = range_long old offset len long

    left : length (slice_range written offset (offset + len)) ≡ len
    left = range_long written offset len (omega (arith, length_overwritten old new (offset + start) (omega (arith, short, long)), long))

    right : length (overwritten part start new) ≡ length part
    right = length_overwritten part new start (omega (arith, many, short))

    moved : (k : ℕ) → start ≤ k → offset + k - (offset + start) ≡ k - start
    moved k from = omega (arith, from)

    each : (k : ℕ) → k < len → get_or (slice_range written offset (offset + len)) k 0 ≡ get_or (overwritten part start new) k 0
    each k less = range_at written offset len k less ∙ ⊎_elim
        (λ before. overwritten_before old new (offset + start) (offset + k) (omega (arith, short, long)) (omega (arith, before))
        ∙ sym (range_at old offset len k less)
        ∙ sym (overwritten_before part new start k (omega (arith, many, short)) before))
        (λ from. ⊎_elim
        (λ to. overwritten_in old new (offset + start) (offset + k) (omega (arith, short, long)) (omega (arith, from)) (omega (arith, to))
        ∙ ap (λ j. get_or new j 0) (moved k from)
        ∙ sym (overwritten_in part new start k (omega (arith, many, short)) from to))
        (λ past. overwritten_after old new (offset + start) (offset + k) (omega (arith, short, long)) (omega (arith, past))
        ∙ sym (range_at old offset len k less)
        ∙ sym (overwritten_after part new start k (omega (arith, many, short)) past))
        (cases_lt k (start + length new)))
        (cases_lt k start)

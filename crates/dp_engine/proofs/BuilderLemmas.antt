-- Taking blocks from a builder, and giving them back.
use Rattle.std.proofs.Common.{◌≡◌, ℕ, ◌+◌, ◌-◌, ◌%◌, ◌<◌, ◌≤◌, Bool, true, false, cond, ◌&&◌, ◌⊎◌, inl, inr, List, [], ◌∷◌, ◌++◌, refl, sym, ap, subst, ◌∙◌}
use Rattle.std.proofs.Common.{arith, ltb, eqb}
use Rattle.std.specs.Prelude.{not}
use Rattle.std.specs.List.{AllByRecursion}
use Rattle.std.proofs.lemmas.Bool.{lt-ltb, le-ltb, eq-eqb, eqb-true, false_from_ne_true, and_parts, true≢false}
use Rattle.dp_heap.specs.declared.elements.Element.{Element}
use Rattle.dp_heap.specs.declared.elements.State.TheVariants.{Free, Busy}
use Rattle.dp_heap.specs.Elements.{is_free, is_busy, end_of, data_of, CanHold, NothingFits, IsHighest, spare, kept, busy, pieces, Taken, both, freed, joined}
use Rattle.dp_heap.specs.Elements.{merged, count_of}
use Rattle.dp_engine.specs.Builders.{bottom, block_at, LieUnder, IsBuilt, left_in, size_of, Has}

-- ---- taking from the bottom

spare_some : (offset size : ℕ) → 128 < size → spare offset size ≡ record { offset = offset; size = size; state = Free; pad = 0 } ∷ []
spare_some offset size above = ap (λ (b : Bool). cond b (record { offset = offset; size = size; state = Free; pad = 0 } ∷ []) []) (lt-ltb 128 size above)

spare_none : (offset size : ℕ) → size ≤ 128 → spare offset size ≡ []
spare_none offset size below = ap (λ (b : Bool). cond b (record { offset = offset; size = size; state = Free; pad = 0 } ∷ []) []) (le-ltb 128 size below)

kept_none : (size : ℕ) → 128 < size → kept size ≡ 0
kept_none size above = ap (λ (b : Bool). cond b 0 size) (lt-ltb 128 size above)

abbrev made : ℕ → ℕ → ℕ → Element
made offset size pad = record { offset = offset; size = size; state = Busy; pad = pad }

same_made : (p s d p' s' d' : ℕ) → p ≡ p' → s ≡ s' → d ≡ d' → made p s d ≡ made p' s' d'
same_made p s d p' s' d' x y z i = record { offset = x i; size = y i; state = Busy; pad = z i }

busy_is : (f n d : ℕ) → 192 + n < f → d ≡ f - n → busy (bottom f) n d ≡ block_at (f - (64 + n)) n
busy_is f n d room at =
    let pad : kept (d - 64 - 0) ≡ 0 = kept_none (d - 64 - 0) (omega arith) in
    let none : 0 + f - (d + n) ≡ 0 = omega arith in
    let tail : kept (0 + f - (d + n)) ≡ 0 = ap kept none in
    same_made (d - 64 - kept (d - 64 - 0)) (kept (d - 64 - 0) + 64 + n + kept (0 + f - (d + n))) (kept (d - 64 - 0)) (f - (64 + n)) (64 + n) 0 (omega arith)
    (omega arith) pad

pieces_are : (f n d : ℕ) → 192 + n < f → d ≡ f - n → pieces (bottom f) n d ≡ bottom (f - (64 + n)) ∷ block_at (f - (64 + n)) n ∷ []
pieces_are f n d room at =
    let front : spare 0 (d - 64 - 0) ≡ bottom (d - 64 - 0) ∷ [] = spare_some 0 (d - 64 - 0) (omega arith) in
    let tail : spare (d + n) (0 + f - (d + n)) ≡ [] = spare_none (d + n) (0 + f - (d + n)) (omega arith) in
    let left : d - 64 - 0 ≡ f - (64 + n) = omega arith in
    ap (λ (es : List Element). es ++ (busy (bottom f) n d ∷ spare (d + n) (0 + f - (d + n)))) front
    ∙ ap (λ (s : ℕ). bottom s ∷ (busy (bottom f) n d ∷ spare (d + n) (0 + f - (d + n)))) left
    ∙ ap (λ (es : List Element). bottom (f - (64 + n)) ∷ (busy (bottom f) n d ∷ es)) tail
    ∙ ap (λ (e : Element). bottom (f - (64 + n)) ∷ e ∷ []) (busy_is f n d room at)

pub holds : (f n : ℕ) → f % 64 ≡ 0 → n % 64 ≡ 0 → 64 + n ≤ f → CanHold (bottom f) n 64 (f - n)
holds f n even steps room = (refl, omega arith, omega arith, omega arith)

highest_is : (f n d : ℕ) → f % 64 ≡ 0 → n % 64 ≡ 0 → 64 + n ≤ f → IsHighest (bottom f) n 64 d → d ≡ f - n
highest_is f n d even steps room ((_, _, _, most), least) = omega (arith, most, least (f - n) (holds f n even steps room))

abbrev AreBusy : List Element → Type 0
AreBusy es = AllByRecursion (λ e. is_free e ≡ false) es

none_free : (es before : List Element) (e : Element) (after : List Element) → AreBusy es → es ≡ before ++ e ∷ after → is_free e ≡ true → ⊥
none_free es [] e after all is free = let here : is_free e ≡ false = (subst AreBusy is all).0 in true≢false (sym free ∙ here)
none_free es (x ∷ before) e after all is free = none_free (before ++ e ∷ after) before e after (subst AreBusy is all).1 refl free

-- from the bottom of a heap without another free element
bottom_taken : (f n d : ℕ) (rest new : List Element) → AreBusy rest → f % 64 ≡ 0 → n % 64 ≡ 0 → 192 + n < f → Taken (bottom f ∷ rest) n 64 d new
    → (new ≡ bottom (f - (64 + n)) ∷ block_at (f - (64 + n)) n ∷ rest) × (d ≡ f - n)
bottom_taken f n d rest new all even steps room (e, high, (before, after, old_is, new_is)) = go before old_is new_is
  where
    go : (before : List Element) → bottom f ∷ rest ≡ before ++ e ∷ after → new ≡ before ++ (pieces e n d ++ after) →
        (new ≡ bottom (f - (64 + n)) ∷ block_at (f - (64 + n)) n ∷ rest) × (d ≡ f - n)
    go [] old_is new_is =
        let same : e ≡ bottom f = cc in
        let others : after ≡ rest = cc in
        let at = highest_is f n d even steps (omega arith) (subst (λ (x : Element). IsHighest x n 64 d) same high) in (
          new_is ∙ ap (λ (x : Element). pieces x n d ++ after) same ∙ ap (λ (es : List Element). es ++ after) (pieces_are f n d room at)
              ∙ ap (λ (es : List Element). bottom (f - (64 + n)) ∷ block_at (f - (64 + n)) n ∷ es) others,
          at,
        )
    go (x ∷ before) old_is new_is =
        let others : rest ≡ before ++ e ∷ after = cc in
        absurd (none_free rest before e after all others high.0.0)

under_busy : (t : Element) (es : List Element) → is_free t ≡ false → LieUnder t es → AreBusy es
under_busy t [] taken lie = absurd lie
under_busy t (e ∷ []) taken lie = (ap is_free lie ∙ taken, tt)
under_busy t (e ∷ x ∷ es) taken (busy, _, lie) = (busy, under_busy t (x ∷ es) taken lie)

more_under : (t b : Element) (es : List Element) → is_free b ≡ false → data_of b < data_of t → LieUnder t es → LieUnder t (b ∷ es)
more_under t b [] taken low lie = absurd lie
more_under t b (x ∷ es) taken low lie = (taken, low, lie)

-- ---- taking a zone

-- from a heap that is one free element
pub first_taken : (size n d : ℕ) (new : List Element) → size % 64 ≡ 0 → n % 64 ≡ 0 → 192 + n < size → Taken (bottom size ∷ []) n 64 d new
    → IsBuilt (block_at (d - 64) n) new × (left_in new + (64 + n) ≡ size) × (d % 64 ≡ 0) × (64 ≤ d)
first_taken size n d new even steps room taken =
    let (is, at) = bottom_taken size n d [] new tt even steps room taken in
    let offset : size - (64 + n) ≡ d - 64 = omega arith in (
      subst (IsBuilt (block_at (d - 64) n)) (sym is) (refl, omega arith, omega arith, ap (λ (p : ℕ). block_at p n) offset),
      ap (λ (es : List Element). left_in es + (64 + n)) is ∙ (omega arith),
      omega arith,
      omega arith,
    )

-- and from a builder
pub builder_taken : (t : Element) (es new : List Element) (n d : ℕ) → is_free t ≡ false → IsBuilt t es → n % 64 ≡ 0 → 192 + n < left_in es → Taken es n 64 d new
    → IsBuilt t new × (left_in new + (64 + n) ≡ left_in es)
builder_taken t [] new n d busy built steps room taken = absurd built
builder_taken t (e ∷ es) new n d busy (first, even, under, lie) steps room taken =
    let f = e.size in
    let (is, at) = bottom_taken f n d es new (under_busy t es busy lie) even steps room (subst (λ (x : Element). Taken (x ∷ es) n 64 d new) first taken) in (
      subst (IsBuilt t) (sym is) (refl, omega arith, omega arith, more_under t (block_at (f - (64 + n)) n) es refl (omega arith) lie),
      ap (λ (zs : List Element). left_in zs + (64 + n)) is ∙ (omega arith),
    )

-- nor is it refused there
pub builder_fits : (t : Element) (es : List Element) (n : ℕ) → IsBuilt t es → n % 64 ≡ 0 → 64 + n ≤ left_in es → NothingFits n 64 es → ⊥
builder_fits t [] n built steps room none = built
builder_fits t (e ∷ es) n (first, even, under, lie) steps room none =
    none.0 (e.size - n) (subst (λ (x : Element). CanHold x n 64 (e.size - n)) (sym first) (holds e.size n even steps room))

-- ---- giving the last of a builder back

busy_joined : (e : Element) (es : List Element) → is_free e ≡ false → joined e es ≡ e ∷ es
busy_joined e [] taken = refl
busy_joined e (x ∷ es) taken = ap (λ (b : Bool). cond (b && is_free x) (both e x ∷ es) (e ∷ x ∷ es)) taken

before_busy : (e x : Element) (es : List Element) → is_free x ≡ false → joined e (x ∷ es) ≡ e ∷ x ∷ es
before_busy e x es taken = go (is_free e) (ap (λ (b : Bool). cond (is_free e && b) (both e x ∷ es) (e ∷ x ∷ es)) taken)
  where
    go : (b : Bool) → joined e (x ∷ es) ≡ cond (is_free e && false) (both e x ∷ es) (e ∷ x ∷ es) → joined e (x ∷ es) ≡ e ∷ x ∷ es
    go b is = is ∙ elim (is_free e) as (λ c. cond (c && false) (both e x ∷ es) (e ∷ x ∷ es) ≡ e ∷ x ∷ es) [ true ↦ refl | false ↦ refl ]

past : (d : ℕ) (e : Element) (es : List Element) → is_free e ≡ false → data_of e < d → merged d (e ∷ es) ≡ e ∷ merged d es
past d e es taken low =
    let off : not (is_free e) && eqb (data_of e) d ≡ false = false_from_ne_true (not (is_free e) && eqb (data_of e) d) (λ on. let same =
    eqb-true (data_of e) d (and_parts (not (is_free e)) (eqb (data_of e) d) on).1 in omega arith) in
    ap (λ (b : Bool). cond b (joined (freed e) es) (joined e (merged d es))) off ∙ busy_joined e (merged d es) taken

top_has : (p n : ℕ) (e : Element) (es : List Element) → LieUnder (block_at p n) (e ∷ es) → Has (freed (block_at p n)) (merged (data_of (block_at p n)) (e ∷ es))
top_has p n e [] lie =
    let t = block_at p n in
    subst (λ (x : Element). Has (freed t) (merged (data_of t) (x ∷ []))) (sym lie)
    (subst (λ (b : Bool). Has (freed t) (cond b (joined (freed t) []) (joined t (merged (data_of t) [])))) (sym (eq-eqb (data_of t) (data_of t) refl))
    (inl refl))
top_has p n e (x ∷ es) (busy, low, lie) =
    let t = block_at p n in
    subst (λ (zs : List Element). Has (freed t) zs) (sym (past (data_of t) e (x ∷ es) busy low)) (inr (top_has p n x es lie))

-- both the bottom and its own offset are free then
pub top_freed : (p n : ℕ) (es : List Element) → IsBuilt (block_at p n) es → 2 ≤ count_of is_busy es
    → Has (bottom (left_in es)) (merged (data_of (block_at p n)) es) × Has (freed (block_at p n)) (merged (data_of (block_at p n)) es)
top_freed p n [] built more = absurd built
top_freed p n (f ∷ []) (first, even, under, lie) more = absurd lie
top_freed p n (f ∷ e ∷ []) (first, even, under, lie) more =
    let one : count_of is_busy (f ∷ e ∷ []) ≡ count_of is_busy (bottom f.size ∷ block_at p n ∷ []) = ap (λ (x : Element). count_of is_busy (x ∷ e ∷ [])) first
    ∙ ap (λ (x : Element). count_of is_busy (bottom f.size ∷ x ∷ [])) lie in
    absurd (omega arith)
top_freed p n (f ∷ e ∷ x ∷ es) (first, even, under, (busy, low, lie)) more =
    let t = block_at p n in let d = data_of t in
    let rest : merged d (e ∷ x ∷ es) ≡ e ∷ merged d (x ∷ es) = past d e (x ∷ es) busy low in
    let whole : merged d (f ∷ e ∷ x ∷ es) ≡ bottom f.size ∷ e ∷ merged d (x ∷ es) =
    ap (λ (y : Element). merged d (y ∷ e ∷ x ∷ es)) first ∙ ap (joined (bottom f.size)) rest ∙ before_busy (bottom f.size) e (merged d (x ∷ es)) busy in (
      subst (λ (zs : List Element). Has (bottom f.size) zs) (sym whole) (inl refl),
      subst (λ (zs : List Element). Has (freed t) zs) (sym whole) (inr (inr (top_has p n x es lie))),
    )

-- ---- free elements

-- one that has room for a block keeps it from being refused
pub has_fits : (e : Element) (es : List Element) (n a d : ℕ) → Has e es → CanHold e n a d → NothingFits n a es → ⊥
has_fits e [] n a d has can none = has
has_fits e (x ∷ es) n a d (inl same) can none = none.0 d (subst (λ (y : Element). CanHold y n a d) (sym same) can)
has_fits e (x ∷ es) n a d (inr has) can none = has_fits e es n a d has can none.1

has_left : (e : Element) (es fs : List Element) → Has e es → Has e (es ++ fs)
has_left e [] fs has = absurd has
has_left e (x ∷ es) fs (inl same) = inl same
has_left e (x ∷ es) fs (inr has) = inr (has_left e es fs has)

has_right : (e : Element) (es fs : List Element) → Has e fs → Has e (es ++ fs)
has_right e [] fs has = has
has_right e (x ∷ es) fs has = inr (has_right e es fs has)

has_parts : (e : Element) (es fs : List Element) → Has e (es ++ fs) → Has e es ⊎ Has e fs
has_parts e [] fs has = inr has
has_parts e (x ∷ es) fs (inl same) = inl (inl same)
has_parts e (x ∷ es) fs (inr has) = elim (has_parts e es fs has) [ inl here ↦ inl (inr here) | inr there ↦ inr there ]

-- one that has none is not taken
pub has_stays : (e : Element) (es new : List Element) (n a d : ℕ) → Has e es → (CanHold e n a d → ⊥) → Taken es n a d new → Has e new
has_stays e es new n a d has never (x, high, (before, after, old_is, new_is)) =
    subst (Has e) (sym new_is) (elim (has_parts e before (x ∷ after) (subst (Has e) old_is has)) [
      | inl here ↦ has_left e before (pieces x n d ++ after) here
      | inr (inl same) ↦ absurd (never (subst (λ (y : Element). CanHold y n a d) same high.0))
      | inr (inr there) ↦ has_right e before (pieces x n d ++ after) (has_right e (pieces x n d) after there)
    ])

-- ---- the sum of the sizes

joined_size : (e : Element) (es : List Element) → size_of (joined e es) ≡ e.size + size_of es
joined_size e [] = refl
joined_size e (x ∷ es) = go (is_free e && is_free x)
  where
    go : (b : Bool) → size_of (cond b (both e x ∷ es) (e ∷ x ∷ es)) ≡ e.size + (x.size + size_of es)
    go true = omega arith
    go false = refl

-- freeing keeps it
pub merged_size : (d : ℕ) (es : List Element) → size_of (merged d es) ≡ size_of es
merged_size d [] = refl
merged_size d (e ∷ es) = go (not (is_free e) && eqb (data_of e) d) (merged_size d es)
  where
    go : (b : Bool) → size_of (merged d es) ≡ size_of es → size_of (cond b (joined (freed e) es) (joined e (merged d es))) ≡ e.size + size_of es
    go true more = joined_size (freed e) es
    go false more = joined_size e (merged d es) ∙ ap (λ (s : ℕ). e.size + s) more

append_size : (es fs : List Element) → size_of (es ++ fs) ≡ size_of es + size_of fs
append_size [] fs = omega arith
append_size (e ∷ es) fs = let more = append_size es fs in omega arith

spare_size : (offset size : ℕ) → size_of (spare offset size) + kept size ≡ size
spare_size offset size = go (ltb 128 size)
  where
    go : (b : Bool) → size_of (cond b (record { offset = offset; size = size; state = Free; pad = 0 } ∷ []) []) + cond b 0 size ≡ size
    go true = omega arith
    go false = omega arith

pieces_size : (e : Element) (n a d : ℕ) → CanHold e n a d → size_of (pieces e n d) ≡ e.size
pieces_size e n a d (_, _, low, high) =
    let front = spare_size e.offset (d - 64 - e.offset) in
    let tail = spare_size (d + n) (end_of e - (d + n)) in
    let whole = append_size (spare e.offset (d - 64 - e.offset)) (busy e n d ∷ spare (d + n) (end_of e - (d + n))) in
    omega arith

-- and so does taking
pub taken_size : (n a d : ℕ) (old new : List Element) → Taken old n a d new → size_of new ≡ size_of old
taken_size n a d old new (e, high, (before, after, old_is, new_is)) =
    let same = pieces_size e n a d high.0 in
    let left = append_size before (e ∷ after) in
    let right = append_size before (pieces e n d ++ after) in
    let middle = append_size (pieces e n d) after in
    let was = ap size_of old_is in let is = ap size_of new_is in
    omega arith

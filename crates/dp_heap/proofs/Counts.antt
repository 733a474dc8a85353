-- The number of busy elements after a block is taken, and after one is freed.
use Rattle.std.proofs.Common.{◌≡◌, ℕ, ◌+◌, ◌-◌, Bool, true, cond, ltb, ◌&&◌, List, [], ◌∷◌, ◌++◌, refl, ap, arith}
use Rattle.std.specs.Prelude.{◌==◌}
use Rattle.std.proofs.lemmas.Bool.{cond_both, and_parts}
use Rattle.dp_heap.specs.declared.elements.Element.{Element}
use Rattle.dp_heap.specs.declared.elements.State.TheVariants.{Free}
use Rattle.dp_heap.specs.Elements.{is_free, is_busy, end_of, data_of, spare, busy, pieces, both, freed, joined, count_of}
use Rattle.dp_heap.specs.Edits.{onto, has_block}

abbrev out : List Element → ℕ
out = count_of is_busy

-- 1 for a busy element
abbrev weight : Element → ℕ
weight e = cond (is_busy e) 1 0

weightless : (e : Element) → is_free e ≡ true → weight e ≡ 0
weightless e free = rw free

out-append : (xs ys : List Element) → out (xs ++ ys) ≡ out xs + out ys
out-append [] ys = omega arith
out-append (x ∷ xs) ys = let rest = out-append xs ys in omega arith

out-spare : (offset size : ℕ) → out (spare offset size) ≡ 0
out-spare offset size = cond_both (ltb 128 size) (record { offset = offset; size = size; state = Free; pad = 0 } ∷ []) [] (λ es. out es
    ≡ 0) (λ t. refl) (λ t. refl)

out-pieces : (e : Element) (n d : ℕ) → out (pieces e n d) ≡ 1
out-pieces e n d =
    let tail = spare (d + n) (end_of e - (d + n)) in
    let first = out-spare e.offset (d - 64 - e.offset) in let last = out-spare (d + n) (end_of e - (d + n)) in
    let middle : out (busy e n d ∷ tail) ≡ 1 + out tail = refl in
    let whole = out-append (spare e.offset (d - 64 - e.offset)) (busy e n d ∷ tail) in omega arith

-- one more once a block is taken
pub out-taken : (before : List Element) (e : Element) (after : List Element) (n d : ℕ) → is_free e ≡ true → out (before ++ (pieces e n d ++ after))
    ≡ out (before ++ e ∷ after) + 1
out-taken before e after n d free =
    let new = out-append before (pieces e n d ++ after) in let placed = out-append (pieces e n d) after in let one = out-pieces e n d in
    let old = out-append before (e ∷ after) in let none = weightless e free in omega arith

out-joined : (e : Element) (es : List Element) → out (joined e es) ≡ weight e + out es
out-joined e [] = refl
out-joined e (x ∷ es) = cond_both (is_free e && is_free x) (both e x ∷ es) (e ∷ x ∷ es) (λ ys. out ys ≡ weight e + (weight x + out es))
    (λ free. let parts = and_parts (is_free e) (is_free x) free in let first = weightless e parts.0 in let second = weightless x parts.1 in
    let merged : out (both e x ∷ es) ≡ 0 + out es = refl in omega arith)
    (λ t. refl)

out-onto : (before es : List Element) → out (onto before es) ≡ out before + out es
out-onto [] es = omega arith
out-onto (x ∷ []) es = let last = out-joined x es in omega arith
out-onto (x ∷ y ∷ before) es = let rest = out-onto (y ∷ before) es in omega arith

-- one less once a block is freed
pub out-freed : (before : List Element) (e : Element) (after : List Element) (d : ℕ) → has_block d e ≡ true → out (onto before (joined (freed e) after)) + 1
    ≡ out (before ++ e ∷ after)
out-freed before e after d here =
    let whole = out-onto before (joined (freed e) after) in let joins = out-joined (freed e) after in let none : weight (freed e) ≡ 0 = refl in
    let old = out-append before (e ∷ after) in let one : weight e ≡ 1 = ap (λ (b : Bool). cond b 1 0) (and_parts (is_busy e) (data_of e == d) here).0 in
    omega arith

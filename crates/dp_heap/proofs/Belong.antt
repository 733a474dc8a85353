-- How many elements begin at an offset and belong to a list.
use Rattle.std.proofs.Common.{◌≡◌, ℕ, suc, ◌+◌, ◌<◌, ◌≤◌, Bool, true, false, cond, eqb, eqb-true, ◌&&◌, List, [], ◌∷◌, ◌++◌, refl, sym, ap, ◌∙◌, arith}
use Rattle.std.proofs.lemmas.Bool.{eqb-false, and_parts, cond_both}
use Rattle.dp_region.specs.Laws.{by_test}
use Rattle.std.proofs.lemmas.Bool.Decides.{nat_tests}
use Rattle.dp_heap.specs.declared.elements.Element.{Element}
use Rattle.dp_heap.specs.Elements.{is_free, end_of, sum_of}
use Rattle.dp_heap.specs.Laid.{Laid}
use Rattle.dp_heap.specs.Lists.{class_of, times, belongs, belong}
use Rattle.dp_heap.proofs.Laid.{first_offset}

pub class_small : (n : ℕ) → class_of n < 5
class_small n = grind (arith, nat_tests)

-- 1 for true
abbrev pub bit : Bool → ℕ
bit b = cond b 1 0

pub same_one : (p : ℕ) → bit (eqb p p) ≡ 1
same_one p = grind (arith, nat_tests)

one_small : (b : Bool) → bit b ≤ 1
one_small true = omega arith
one_small false = omega arith

pub times-append : (p : ℕ) (ps qs : List ℕ) → times p (ps ++ qs) ≡ times p ps + times p qs
times-append p [] qs = omega arith
times-append p (q ∷ ps) qs = let r = times-append p ps qs in omega arith

-- a list that has p, split at p
pub record Split (p : ℕ) (ps : List ℕ) : Type 0 where
  pub before : List ℕ
  pub after : List ℕ
  pub is : ps ≡ before ++ p ∷ after

pub times_split : (p : ℕ) (ps : List ℕ) → 1 ≤ times p ps → Split p ps
times_split p [] h = absurd (let h' : 1 ≤ 0 = h in omega arith)
times_split p (q ∷ ps) h = by_test (eqb q p)
    (λ t. record { before = []; after = ps; is = ap (λ (x : ℕ). x ∷ ps) (eqb-true q p t) })
    (λ t. let no : bit (eqb q p) ≡ 0 = ap (λ (b : Bool). cond b 1 0) t in
    let r = times_split p ps (omega arith) in record { before = q ∷ r.before; after = r.after; is = ap (λ (xs : List ℕ). q ∷ xs) r.is })

pub sum-append : (f : Element → ℕ) (xs ys : List Element) → sum_of f (xs ++ ys) ≡ sum_of f xs + sum_of f ys
sum-append f [] ys = omega arith
sum-append f (x ∷ xs) ys = let r = sum-append f xs ys in omega arith

pub belong-append : (c p : ℕ) (xs ys : List Element) → belong c p (xs ++ ys) ≡ belong c p xs + belong c p ys
belong-append c p = sum-append (belongs c p)

-- whether an element is counted
abbrev counts : ℕ → ℕ → Element → Bool
counts c p e = is_free e && (eqb (class_of e.size) c && eqb e.offset p)

-- e is free, belongs to the list c, and begins at p
pub record Counted (c p : ℕ) (e : Element) : Type 0 where
  pub free : is_free e ≡ true
  pub class : class_of e.size ≡ c
  pub at : e.offset ≡ p

counts_parts : (c p : ℕ) (e : Element) → counts c p e ≡ true → Counted c p e
counts_parts c p e t =
    let a = and_parts (is_free e) (eqb (class_of e.size) c && eqb e.offset p) t in let b = and_parts (eqb (class_of e.size) c) (eqb e.offset p) a.1 in
    record { free = a.0; class = eqb-true (class_of e.size) c b.0; at = eqb-true e.offset p b.1 }

pub belongs_here : (e : Element) → is_free e ≡ true → belongs (class_of e.size) e.offset e ≡ 1
belongs_here e free = grind (arith, nat_tests)

pub belongs_off : (c p : ℕ) (e : Element) → (Counted c p e → ⊥) → belongs c p e ≡ 0
belongs_off c p e off = cond_both (counts c p e) 1 0 (λ n. n ≡ 0) (λ t. absurd (off (counts_parts c p e t))) (λ t. refl)

pub belongs_is : (c p : ℕ) (e : Element) → is_free e ≡ true → belongs c p e ≡ cond (eqb c (class_of e.size)) (cond (eqb e.offset p) 1 0) 0
belongs_is c p e free = grind (arith, nat_tests)

-- an element that is counted
pub record Member (c p : ℕ) (es : List Element) : Type 0 where
  pub before : List Element
  pub it : Element
  pub after : List Element
  pub split : es ≡ before ++ it ∷ after
  pub counted : Counted c p it

pub member : (c p : ℕ) (es : List Element) → 1 ≤ belong c p es → Member c p es
member c p [] h = absurd (let h' : 1 ≤ 0 = h in omega arith)
member c p (e ∷ es) h = by_test (counts c p e)
    (λ t. record { before = []; it = e; after = es; split = refl; counted = counts_parts c p e t })
    (λ t. let no : belongs c p e ≡ 0 = ap (λ (b : Bool). cond b 1 0) t in let r = member c p es (omega arith) in
    record { before = e ∷ r.before; it = r.it; after = r.after; split = ap (λ (xs : List Element). e ∷ xs) r.split; counted = r.counted })

pub belongs_of : (before : List Element) (e : Element) (after : List Element) → is_free e ≡ true → 1 ≤ belong (class_of e.size) e.offset (before ++ e ∷ after)
belongs_of before e after free = let s = belong-append (class_of e.size) e.offset before (e ∷ after) in let h = belongs_here e free in omega arith

module _ (xs : List ℕ) where
  pub none_lower : (c p : ℕ) (es : List Element) (low high : ℕ) → Laid xs low high es → p < low → belong c p es ≡ 0
  none_lower c p [] low high l h = refl
  none_lower c p (e ∷ es) low high l h =
      let at = first_offset xs e low l.read in let r = none_lower c p es (end_of e) high l.rest (omega arith) in
      let no = belongs_off c p e (λ all. let same = all.at in absurd (omega arith)) in omega arith

  -- an offset belongs to one list
  pub single : (c d p : ℕ) → (c ≡ d → ⊥) → (es : List Element) (low high : ℕ) → Laid xs low high es → belong c p es + belong d p es ≤ 1
  single c d p off [] low high l = omega arith
  single c d p off (e ∷ es) low high l = by_test (eqb e.offset p)
      (λ t. let at = eqb-true e.offset p t in let some = l.large in
      let n1 = none_lower c p es (end_of e) high l.rest (omega arith) in let n2 = none_lower d p es (end_of e) high l.rest (omega arith) in
      let one : belongs c p e + belongs d p e ≤ 1 = by_test (counts c p e)
      (λ a. let no = belongs_off d p e (λ all. off (sym (counts_parts c p e a).class ∙ all.class)) in let s = one_small (counts c p e) in omega arith)
      (λ a. let no : belongs c p e ≡ 0 = ap (λ (b : Bool). cond b 1 0) a in let s = one_small (counts d p e) in omega arith) in omega arith)
      (λ t. let n1 = belongs_off c p e (λ all. eqb-false e.offset p t all.at) in
      let n2 = belongs_off d p e (λ all. eqb-false e.offset p t all.at) in
      let r = single c d p off es (end_of e) high l.rest in omega arith)

  pub once : (c p : ℕ) (es : List Element) (low high : ℕ) → Laid xs low high es → belong c p es ≤ 1
  once c p es low high l = let r = single c (suc c) p (λ same. absurd (omega arith)) es low high l in omega arith

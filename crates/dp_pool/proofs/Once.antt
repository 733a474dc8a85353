-- Lists of indexes, each once.
use Rattle.std.proofs.Common.{◌≡◌, ℕ, zero, suc, ◌+◌, ◌<◌, ◌≤◌, Bool, true, false, not, cond, eqb, leb, List, [], ◌∷◌, ◌++◌, length, slice_get, slice_set}
use Rattle.std.proofs.Common.{count_by, Some, refl, sym, ap, ap₂, ◌∙◌, arith, inl, inr}
use Rattle.std.specs.Prelude.{unwrap_or}
use Rattle.std.proofs.lemmas.Option.{slice_get_within}
use Rattle.std.proofs.lemmas.Bool.{false≢true, cases_Bool, leb-true, leb-false}
use Rattle.std.proofs.lemmas.Bool.Decides.{eqb_tells}
use Rattle.std.proofs.lemmas.List.Sums.{sum_by-cons}
use Rattle.dp_pool.specs.Once.{occurs, absent_from, absent, AreOnce}

-- 1 for the index itself, and 0 for another
abbrev pub hit : ℕ → ℕ → ℕ
hit x i = cond (eqb x i) 1 0

pub hit_same : (x : ℕ) → hit x x ≡ 1
hit_same x = elim (eqb_tells x x) [ inl e ↦ ap (λ b. cond b 1 0) e.0 | inr e ↦ absurd (e.1 refl) ]

pub hit_other : (x i : ℕ) → (x ≡ i → ⊥) → hit x i ≡ 0
hit_other x i off = elim (eqb_tells x i) [ inl e ↦ absurd (off e.1) | inr e ↦ ap (λ b. cond b 1 0) e.0 ]

pub occurs-append : (i : ℕ) (xs ys : List ℕ) → occurs i (xs ++ ys) ≡ occurs i xs + occurs i ys
occurs-append i [] ys = omega arith
occurs-append i (x ∷ xs) ys = let rest = occurs-append i xs ys in omega (arith, rest)

-- ---- how many there are

-- how often the n indexes from i on occur in the list, together
abbrev total : ℕ → ℕ → List ℕ → ℕ
total i zero ins = 0
total i (suc n) ins = occurs i ins + total (suc i) n ins

total_nothing : (i n : ℕ) → total i n [] ≡ 0
total_nothing i zero = refl
total_nothing i (suc n) = let rest = total_nothing (suc i) n in omega (arith, rest)

total_past : (i n x : ℕ) → x < i → total i n (x ∷ []) ≡ 0
total_past i zero x past = refl
total_past i (suc n) x past =
    let here = hit_other x i (λ is. omega (arith, is, past)) in
    let rest = total_past (suc i) n x (omega (arith, past)) in
    omega (arith, here, rest)

total_one : (i n x : ℕ) → i ≤ x → x < i + n → total i n (x ∷ []) ≡ 1
total_one i zero x low high = absurd (omega (arith, low, high))
total_one i (suc n) x low high = elim (eqb_tells x i) [
  | inl e ↦ let here : hit x i ≡ 1 = ap (λ b. cond b 1 0) e.0 in let rest = total_past (suc i) n x (omega (arith, e.1)) in omega (arith, here, rest)
  | inr e ↦
      let here : hit x i ≡ 0 = ap (λ b. cond b 1 0) e.0 in
      let above : suc i ≤ x = elim (eqb_tells i x) [ inl f ↦ absurd (e.1 (sym f.1)) | inr f ↦ omega (arith, low, f.1) ] in
      let rest = total_one (suc i) n x above (omega (arith, high)) in
      omega (arith, here, rest)
]

total_more : (i n x : ℕ) (ins : List ℕ) → total i n (x ∷ ins) ≡ total i n (x ∷ []) + total i n ins
total_more i zero x ins = refl
total_more i (suc n) x ins = let rest = total_more (suc i) n x ins in omega (arith, rest)

total_few : (i n : ℕ) (ins : List ℕ) → ((j : ℕ) → occurs j ins ≤ 1) → total i n ins ≤ n
total_few i zero ins once = omega arith
total_few i (suc n) ins once = let here = once i in let rest = total_few (suc i) n ins once in omega (arith, here, rest)

below_rest : (n x : ℕ) (ins : List ℕ) → ((i : ℕ) → n ≤ i → occurs i (x ∷ ins) ≡ 0) → (x < n) × ((i : ℕ) → n ≤ i → occurs i ins ≡ 0)
below_rest n x ins below = (
  elim (cases_Bool (leb n x)) [
    | inl past ↦ absurd (let none = below x (leb-true n x past) in let here = hit_same x in omega (arith, none, here))
    | inr low ↦ leb-false n x low
  ],
  λ i past. let none = below i past in omega (arith, none),
)

total_length : (n : ℕ) (ins : List ℕ) → ((i : ℕ) → n ≤ i → occurs i ins ≡ 0) → total 0 n ins ≡ length ins
total_length n [] below = total_nothing 0 n
total_length n (x ∷ ins) below =
    let parts = below_rest n x ins below in
    let more = total_more 0 n x ins in
    let one = total_one 0 n x (omega arith) (omega (arith, parts.0)) in
    let rest = total_length n ins parts.1 in
    omega (arith, more, one, rest)

-- there are at most n of them
pub length_once : (n : ℕ) (ins : List ℕ) → AreOnce n ins → length ins ≤ n
length_once n ins are = let all = total_length n ins are.below in let few = total_few 0 n ins are.once in omega (arith, all, few)

count_total : (i n : ℕ) (ins : List ℕ) → ((j : ℕ) → occurs j ins ≤ 1) → count_by not (absent_from i n ins) ≡ total i n ins
count_total i zero ins once = refl
count_total i (suc n) ins once =
    let rest = count_total (suc i) n ins once in
    let few = once i in
    let here : cond (not (eqb (occurs i ins) 0)) 1 0 ≡ occurs i ins = elim (eqb_tells (occurs i ins) 0) [
      | inl e ↦ ap (λ b. cond (not b) 1 0) e.0 ∙ sym e.1
      | inr e ↦ ap (λ b. cond (not b) 1 0) e.0 ∙ (let some = e.1 in omega (arith, few, some))
    ] in
    sum_by-cons (λ b. cond (not b) 1 0) (eqb (occurs i ins) 0) (absent_from (suc i) n ins) ∙ omega (arith, here, rest)

-- of those below n, as many are in the list as it is long
pub count_absent : (n : ℕ) (ins : List ℕ) → AreOnce n ins → count_by not (absent n ins) ≡ length ins
count_absent n ins are = count_total 0 n ins are.once ∙ total_length n ins are.below

-- ---- lists that change

-- the same indexes, in another order
pub once_same : (n : ℕ) (old new : List ℕ) → ((i : ℕ) → occurs i new ≡ occurs i old) → AreOnce n old → AreOnce n new
once_same n old new same are = record {
  below = λ i past. same i ∙ are.below i past;
  once = λ i. let is = same i in let few = are.once i in omega (arith, is, few);
}

absent_from_same : (i n : ℕ) (old new : List ℕ) → ((j : ℕ) → i ≤ j → occurs j new ≡ occurs j old) → absent_from i n new ≡ absent_from i n old
absent_from_same i zero old new same = refl
absent_from_same i (suc n) old new same =
    ap₂ (λ (b : Bool) (bs : List Bool). b ∷ bs) (ap (λ k. eqb k 0) (same i (omega arith)))
    (absent_from_same (suc i) n old new (λ j from. same j (omega (arith, from))))

pub absent_same : (n : ℕ) (old new : List ℕ) → ((i : ℕ) → occurs i new ≡ occurs i old) → absent n new ≡ absent n old
absent_same n old new same = absent_from_same 0 n old new (λ j from. same j)

absent_from_set : (i n m k : ℕ) (old new : List ℕ) (b : Bool) → k ≡ i + m → m < n → ((j : ℕ) → (j ≡ k → ⊥) → occurs j new ≡ occurs j old) →
    eqb (occurs k new) 0 ≡ b
    → absent_from i n new ≡ slice_set (absent_from i n old) m b
absent_from_set i zero m k old new b at less others is = absurd (omega (arith, less))
absent_from_set i (suc n) zero k old new b at less others is =
    let here : k ≡ i = omega (arith, at) in
    ap₂ (λ (b : Bool) (bs : List Bool). b ∷ bs) (ap (λ j. eqb (occurs j new) 0) (sym here)
    ∙ is) (absent_from_same (suc i) n old new (λ j from. others j (λ same. omega (arith, same, here, from))))
absent_from_set i (suc n) (suc m) k old new b at less others is =
    ap₂ (λ (b : Bool) (bs : List Bool). b ∷ bs) (ap (λ j. eqb j 0) (others i (λ same. omega (arith, same, at))))
    (absent_from_set (suc i) n m k old new b (omega (arith, at)) (omega (arith, less)) others is)

-- one index leaves: it is absent then, and was not before
pub absent_taken : (n k : ℕ) (old new : List ℕ) → k < n → ((i : ℕ) → occurs i old ≡ hit k i + occurs i new) → AreOnce n old →
    absent n new ≡ slice_set (absent n old) k true
absent_taken n k old new less more are =
    absent_from_set 0 n k k old new true (omega arith) less (λ j off. let is = more j in
    let here = hit_other k j (λ same. off (sym same)) in omega (arith, is, here))
    (let is = more k in let here = hit_same k in let once = are.once k in
    ap (λ m. eqb m 0) (let none : occurs k new ≡ 0 = omega (arith, is, here, once) in none))

-- one index joins: it is not absent then
pub absent_put : (n k : ℕ) (old new : List ℕ) → k < n → ((i : ℕ) → occurs i new ≡ hit k i + occurs i old) → absent n new ≡ slice_set (absent n old) k false
absent_put n k old new less more =
    absent_from_set 0 n k k old new false (omega arith) less (λ j off. let is = more j in
    let here = hit_other k j (λ same. off (sym same)) in omega (arith, is, here))
    (elim (eqb_tells (occurs k new) 0) [
      | inl e ↦ absurd (let is = more k in let here = hit_same k in let none = e.1 in omega (arith, is, here, none))
      | inr e ↦ e.0
    ])

-- ---- a list that an index leaves or joins

pub taken_once : (n k : ℕ) (old new : List ℕ) → ((i : ℕ) → occurs i old ≡ hit k i + occurs i new) → AreOnce n old → AreOnce n new
taken_once n k old new more are = record {
  below = λ i past. let is = more i in let none = are.below i past in omega (arith, is, none);
  once = λ i. let is = more i in let few = are.once i in omega (arith, is, few);
}

pub put_once : (n k : ℕ) (old new : List ℕ) → k < n → occurs k old ≡ 0 → ((i : ℕ) → occurs i new ≡ hit k i + occurs i old) → AreOnce n old → AreOnce n new
put_once n k old new less out more are = record {
  below = λ i past. let is = more i in let none = are.below i past in let here = hit_other k i (λ same. omega (arith, same, less, past)) in
      omega (arith, is, none, here);
  once = λ i. elim (eqb_tells k i) [
    | inl e ↦ let is = more i in let here : hit k i ≡ 1 = ap (λ b. cond b 1 0) e.0 in
        let none : occurs i old ≡ 0 = ap (λ j. occurs j old) (sym e.1) ∙ out in omega (arith, is, here, none)
    | inr e ↦ let is = more i in let here : hit k i ≡ 0 = ap (λ b. cond b 1 0) e.0 in let few = are.once i in omega (arith, is, here, few)
  ];
}

-- ---- whether an index is in the list

length-absent_from : (i n : ℕ) (ins : List ℕ) → length (absent_from i n ins) ≡ n
length-absent_from i zero ins = refl
length-absent_from i (suc n) ins = let rest = length-absent_from (suc i) n ins in omega (arith, rest)

pub length-absent : (n : ℕ) (ins : List ℕ) → length (absent n ins) ≡ n
length-absent n ins = length-absent_from 0 n ins

absent_from_get : (i n m : ℕ) (ins : List ℕ) → m < n → slice_get (absent_from i n ins) m ≡ Some (eqb (occurs (i + m) ins) 0)
absent_from_get i zero m ins less = absurd (omega (arith, less))
absent_from_get i (suc n) zero ins less = ap (λ j. Some (eqb (occurs j ins) 0)) (omega arith)
absent_from_get i (suc n) (suc m) ins less =
    absent_from_get (suc i) n m ins (omega (arith, less)) ∙ ap (λ j. Some (eqb (occurs j ins) 0)) (let at : suc i + m ≡ i + suc m = omega arith in at)

pub absent_get : (n m : ℕ) (ins : List ℕ) → m < n → slice_get (absent n ins) m ≡ Some (eqb (occurs m ins) 0)
absent_get n m ins less = absent_from_get 0 n m ins less ∙ ap (λ j. Some (eqb (occurs j ins) 0)) (let at : 0 + m ≡ m = omega arith in at)

-- an index of the list is below n, and not absent
pub present : (n k : ℕ) (ins rest : List ℕ) → ((i : ℕ) → occurs i ins ≡ hit k i + occurs i rest) → AreOnce n ins →
    (k < n) × (slice_get (absent n ins) k ≡ Some false)
present n k ins rest more are =
    let some : 1 ≤ occurs k ins = let is = more k in let here = hit_same k in omega (arith, is, here) in
    let less : k < n = elim (cases_Bool (leb n k)) [
      | inl past ↦ absurd (let none = are.below k (leb-true n k past) in omega (arith, none, some))
      | inr low ↦ leb-false n k low
    ] in (
      less,
      absent_get n k ins less ∙ elim (eqb_tells (occurs k ins) 0) [
        | inl e ↦ absurd (let none = e.1 in omega (arith, none, some))
        | inr e ↦ ap Some e.0
      ],
    )

-- an absent index is below n, and not in the list
pub missing : (n k : ℕ) (ins : List ℕ) → slice_get (absent n ins) k ≡ Some true → (k < n) × (occurs k ins ≡ 0)
missing n k ins is =
    let within = slice_get_within (absent n ins) k true is in
    let long = length-absent n ins in
    let less : k < n = omega (arith, within, long) in (
      less,
      elim (eqb_tells (occurs k ins) 0) [
        | inl e ↦ e.1
        | inr e ↦ absurd (false≢true (sym e.0 ∙ ap (λ o. unwrap_or o true) (sym (absent_get n k ins less) ∙ is)))
      ],
    )

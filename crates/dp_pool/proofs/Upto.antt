-- The indexes below a number, and whether one is in.
use Rattle.std.proofs.Common.{◌≡◌, ℕ, zero, suc, ◌+◌, ◌<◌, ◌≤◌, Bool, true, false, not, ◌&&◌, ◌||◌, cond, eqb, ltb, List, [], ◌∷◌, ◌++◌, length}
use Rattle.std.proofs.Common.{length-append, replicate, refl, sym, ap, ap₂, ◌∙◌, arith, inl, inr}
use Rattle.std.specs.Prelude.{unwrap_or}
use Rattle.std.specs.List.{list_any}
use Rattle.std.proofs.lemmas.Bool.{cases_Bool, ltb-true, ltb-false}
use Rattle.std.proofs.lemmas.Bool.Decides.{eqb_tells}
use Rattle.std.proofs.lemmas.Option.{slice_get_past}
use Rattle.dp_pool.specs.Once.{occurs, absent_from, absent, AreOnce, upto}
use Rattle.dp_pool.specs.Pools.{is_out_in}
use Rattle.dp_pool.proofs.Once.{hit, hit_other, occurs-append, length-absent, absent_get}

pub length-upto : (n : ℕ) → length (upto n) ≡ n
length-upto zero = refl
length-upto (suc n) = length-append (upto n) (n ∷ []) ∙ (let rest = length-upto n in omega (arith, rest))

past_upto : (n i : ℕ) → n ≤ i → occurs i (upto n) ≡ 0
past_upto zero i past = refl
past_upto (suc n) i past =
    let parts = occurs-append i (upto n) (n ∷ []) in
    let rest = past_upto n i (omega (arith, past)) in
    let here = hit_other n i (λ same. omega (arith, same, past)) in
    omega (arith, parts, rest, here)

in_upto : (n i : ℕ) → i < n → occurs i (upto n) ≡ 1
in_upto zero i less = absurd (omega (arith, less))
in_upto (suc n) i less =
    let parts = occurs-append i (upto n) (n ∷ []) in
    elim (eqb_tells n i) [
      | inl e ↦ let here : hit n i ≡ 1 = ap (λ b. cond b 1 0) e.0 in let rest = past_upto n i (omega (arith, e.1)) in omega (arith, parts, here, rest)
      | inr e ↦ let here : hit n i ≡ 0 = ap (λ b. cond b 1 0) e.0 in let off = e.1 in
          let rest = in_upto n i (omega (arith, less, off)) in omega (arith, parts, here, rest)
    ]

pub once_upto : (n : ℕ) → AreOnce n (upto n)
once_upto n = record {
  below = λ i past. past_upto n i past;
  once = λ i. elim (cases_Bool (ltb i n)) [
    | inl low ↦ let is = in_upto n i (ltb-true i n low) in omega (arith, is)
    | inr high ↦ let is = past_upto n i (ltb-false i n high) in omega (arith, is)
  ];
}

none_absent : (i n : ℕ) (ins : List ℕ) → ((j : ℕ) → i ≤ j → j < i + n → occurs j ins ≡ 1) → absent_from i n ins ≡ replicate n false
none_absent i zero ins there = refl
none_absent i (suc n) ins there =
    ap₂ (λ (b : Bool) (bs : List Bool). b ∷ bs) (ap (λ k. eqb k 0) (there i (omega arith) (omega arith)))
    (none_absent (suc i) n ins (λ j from to. there j (omega (arith, from)) (omega (arith, to))))

-- all of them are in
pub absent-upto : (n : ℕ) → absent n (upto n) ≡ replicate n false
absent-upto n = none_absent 0 n (upto n) (λ j from to. in_upto n j (omega (arith, to)))

-- ---- whether an index is out

one_more_is_some : (k : ℕ) → true ≡ not (eqb (1 + k) 0)
one_more_is_some k = elim (eqb_tells (1 + k) 0) [
  | inl e ↦ absurd (let none = e.1 in omega (arith, none))
  | inr e ↦ sym (ap not e.0)
]

any_step : (b any : Bool) (k : ℕ) → any ≡ not (eqb k 0) → (b || any) ≡ not (eqb (cond b 1 0 + k) 0)
any_step true any k is = one_more_is_some k
any_step false any k is = is ∙ ap (λ n. not (eqb n 0)) (omega arith)

any_occurs : (i : ℕ) (xs : List ℕ) → list_any (λ x. eqb x i) xs ≡ not (eqb (occurs i xs) 0)
any_occurs i [] = refl
any_occurs i (x ∷ xs) = any_step (eqb x i) (list_any (λ y. eqb y i) xs) (occurs i xs) (any_occurs i xs)

neither : (a b : ℕ) → (not (not (eqb a 0)) && not (not (eqb b 0))) ≡ eqb (a + b) 0
neither a b = elim (eqb_tells (a + b) 0) [
  | inl c ↦ elim (eqb_tells a 0) [
    | inl d ↦ elim (eqb_tells b 0) [
      | inl e ↦ ap₂ (λ x y. not (not x) && not (not y)) d.0 e.0 ∙ sym c.0
      | inr e ↦ absurd (let all = c.1 in e.1 (omega (arith, all)))
    ]
    | inr d ↦ absurd (let all = c.1 in d.1 (omega (arith, all)))
  ]
  | inr c ↦ elim (eqb_tells a 0) [
    | inl d ↦ elim (eqb_tells b 0) [
      | inl e ↦ absurd (let x = d.1 in let y = e.1 in c.1 (omega (arith, x, y)))
      | inr e ↦ ap₂ (λ x y. not (not x) && not (not y)) d.0 e.0 ∙ sym c.0
    ]
    | inr d ↦ ap (λ x. not (not x) && not (not (eqb b 0))) d.0 ∙ sym c.0
  ]
]

-- an index below n that is neither in the cache nor in the queue is out
pub out_is : (n i : ℕ) (cached queue : List ℕ) → i < n → (not (list_any (λ x. eqb x i) cached) && not (list_any (λ x. eqb x i) queue))
    ≡ is_out_in (absent n (cached ++ queue)) i
out_is n i cached queue less =
    ap₂ (λ a b. not a && not b) (any_occurs i cached) (any_occurs i queue)
    ∙ (neither (occurs i cached) (occurs i queue)
    ∙ (ap (λ k. eqb k 0) (sym (occurs-append i cached queue))
    ∙ ap (λ o. unwrap_or o false) (sym (absent_get n i (cached ++ queue) less))))

pub past_is_not_out : (n i : ℕ) (ins : List ℕ) → n ≤ i → false ≡ is_out_in (absent n ins) i
past_is_not_out n i ins past = ap (λ o. unwrap_or o false) (sym (slice_get_past (absent n ins) i (let long = length-absent n ins in omega (arith, long, past))))

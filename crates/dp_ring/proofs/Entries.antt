-- The entries of a ring in its bytes, and what one more does to them.
use Rattle.std.proofs.Common.{◌≡◌, ℕ, zero, suc, ◌+◌, ◌-◌, ◌*◌, ◌^◌, ◌<◌, ◌≤◌, cond, ltb, List, [], ◌∷◌, ◌++◌, length, slice_get, Some, None, refl, sym, ap}
use Rattle.std.proofs.Common.{◌∙◌, arith, inl, inr}
use Rattle.std.specs.Prelude.{◌⊎◌}
use Rattle.std.proofs.lemmas.Bool.{ltb-true, ltb-false, cases_Bool}
use Rattle.std.proofs.lemmas.Option.{slice_get_past}
use Rattle.dp_region.specs.Region.{number_at, with_number}
use Rattle.dp_region.specs.Laws.{number_at-same, number_at-other}
use Rattle.dp_ring.specs.Rings.{next_slot, entries_from, slot_after}

pub length_entries : (bytes : List ℕ) (count first n : ℕ) → length (entries_from bytes count first n) ≡ n
length_entries bytes count first zero = refl
length_entries bytes count first (suc n) = let rest = length_entries bytes count (next_slot count first) n in omega (arith, rest)

-- ---- slots

-- the slot n places after another, with and without wrapping
pub slot_cases : (count first n : ℕ) → ((first + n < count) × (slot_after count first n ≡ first + n))
    ⊎ ((count ≤ first + n) × (slot_after count first n ≡ first + n - count))
slot_cases count first n = elim (cases_Bool (ltb (first + n) count)) [
  | inl yes' ↦ inl (ltb-true (first + n) count yes', ap (λ t. cond t (first + n) (first + n - count)) yes')
  | inr no' ↦ inr (ltb-false (first + n) count no', ap (λ t. cond t (first + n) (first + n - count)) no')
]

next_cases : (count first : ℕ) → ((first + 1 < count) × (next_slot count first ≡ first + 1)) ⊎ ((count ≤ first + 1) × (next_slot count first ≡ 0))
next_cases count first = elim (cases_Bool (ltb (first + 1) count)) [
  | inl yes' ↦ inl (ltb-true (first + 1) count yes', ap (λ t. cond t (first + 1) 0) yes')
  | inr no' ↦ inr (ltb-false (first + 1) count no', ap (λ t. cond t (first + 1) 0) no')
]

pub next_slot-small : (count first : ℕ) → first < count → next_slot count first < count
next_slot-small count first small = elim (next_cases count first) [
  | inl c ↦ omega (arith, c.0, c.1)
  | inr c ↦ omega (arith, c.0, c.1)
]

pub slot_after-small : (count first n : ℕ) → first < count → n < count → slot_after count first n < count
slot_after-small count first n small few = elim (slot_cases count first n) [
  | inl c ↦ omega (arith, c.0, c.1)
  | inr c ↦ omega (arith, c.0, c.1)
]

-- n + 1 places after a slot is n places after the next one
pub slot_after-next : (count first n : ℕ) → first < count → suc n < count → slot_after count (next_slot count first) n ≡ slot_after count first (suc n)
slot_after-next count first n small few = elim (next_cases count first) [
  | inl c ↦ elim (slot_cases count (next_slot count first) n) [
    | inl d ↦ elim (slot_cases count first (suc n)) [
      | inl e ↦ omega (arith, c.1, d.1, e.1)
      | inr e ↦ omega (arith, c.1, d.0, e.0)
    ]
    | inr d ↦ elim (slot_cases count first (suc n)) [
      | inl e ↦ omega (arith, c.1, d.0, e.0)
      | inr e ↦ omega (arith, c.1, d.1, e.1)
    ]
  ]
  | inr c ↦ elim (slot_cases count (next_slot count first) n) [
    | inl d ↦ elim (slot_cases count first (suc n)) [
      | inl e ↦ omega (arith, c.0, e.0, small)
      | inr e ↦ omega (arith, c.0, c.1, d.1, e.1, small)
    ]
    | inr d ↦ elim (slot_cases count first (suc n)) [
      | inl e ↦ omega (arith, c.0, e.0, small)
      | inr e ↦ omega (arith, c.0, c.1, d.0, few)
    ]
  ]
]

-- different distances lead to different slots
slot_after-other : (count first i n : ℕ) → first < count → i < n → n < count → slot_after count first i ≡ slot_after count first n → ⊥
slot_after-other count first i n small less few same = elim (slot_cases count first i) [
  | inl a ↦ elim (slot_cases count first n) [
    | inl b ↦ omega (arith, a.1, b.1, same, less)
    | inr b ↦ omega (arith, a.1, b.1, b.0, same, less, few)
  ]
  | inr a ↦ elim (slot_cases count first n) [
    | inl b ↦ omega (arith, a.0, b.0, less)
    | inr b ↦ omega (arith, a.1, b.1, a.0, b.0, same, less)
  ]
]

-- ---- one more entry

-- the last entry is n places after the first
entries_from-last : (bytes : List ℕ) (count first n : ℕ) → first < count → n < count → entries_from bytes count first (suc n)
    ≡ entries_from bytes count first n ++ number_at bytes (4 * slot_after count first n) 4 ∷ []
entries_from-last bytes count first zero small few = elim (slot_cases count first 0) [
  | inl c ↦ ap (λ p. number_at bytes (4 * p) 4 ∷ []) (omega (arith, c.1))
  | inr c ↦ absurd (omega (arith, c.0, small))
]
entries_from-last bytes count first (suc n) small few =
    ap (λ rest. number_at bytes (4 * first) 4 ∷ rest) (
    entries_from-last bytes count (next_slot count first) n (next_slot-small count first small) (omega (arith, few))
    ∙ ap (λ p. entries_from bytes count (next_slot count first) n ++ number_at bytes (4 * p) 4 ∷ [])
    (slot_after-next count first n small (omega (arith, few))))

-- a write to another slot leaves the entries
entries_from-kept : (bytes : List ℕ) (count p v first n : ℕ) → first < count → p < count → n < count → 4 * count ≤ length bytes
    → ((i : ℕ) → i < n → slot_after count first i ≡ p → ⊥)
    → entries_from (with_number bytes (4 * p) 4 v) count first n ≡ entries_from bytes count first n
entries_from-kept bytes count p v first zero small slot few room off = refl
entries_from-kept bytes count p v first (suc n) small slot few room off =
    let here : slot_after count first 0 ≡ first = elim (slot_cases count first 0) [
      | inl c ↦ omega (arith, c.1)
      | inr c ↦ absurd (omega (arith, c.0, small))
    ] in
    let apart : (4 * first + 4 ≤ 4 * p) ⊎ (4 * p + 4 ≤ 4 * first) = elim (cases_Bool (ltb first p)) [
      | inl yes' ↦ inl (let less = ltb-true first p yes' in omega (arith, less))
      | inr no' ↦ elim (cases_Bool (ltb p first)) [
        | inl yes' ↦ inr (let less = ltb-true p first yes' in omega (arith, less))
        | inr same ↦ absurd (off 0 (omega arith) (here ∙ (let a = ltb-false first p no' in let b = ltb-false p first same in omega (arith, a, b))))
      ]
    ] in
    let rest = entries_from-kept bytes count p v (next_slot count first) n (next_slot-small count first small) slot (omega (arith, few)) room
    (λ i less is. off (suc i) (omega (arith, less)) (sym (slot_after-next count first i small (omega (arith, few, less))) ∙ is)) in
    ap (λ x. x ∷ entries_from (with_number bytes (4 * p) 4 v) count (next_slot count first) n)
    (number_at-other bytes (4 * p) v (omega (arith, slot, room)) (4 * first) (omega (arith, small, room)) apart)
    ∙ ap (λ xs. number_at bytes (4 * first) 4 ∷ xs) rest

-- a number written after the last entry is the new last entry
pub entries_pushed : (bytes : List ℕ) (count first used v : ℕ) → first < count → used + 1 < count → 4 * count ≤ length bytes → v < 2 ^ 32
    → entries_from (with_number bytes (4 * slot_after count first used) 4 v) count first (used + 1) ≡ entries_from bytes count first used ++ v ∷ []
entries_pushed bytes count first used v small few room fits =
    let p = slot_after count first used in
    let slot = slot_after-small count first used small (omega (arith, few)) in
    let one_more : used + 1 ≡ suc used = omega arith in
    ap (λ n. entries_from (with_number bytes (4 * p) 4 v) count first n) one_more
    ∙ entries_from-last (with_number bytes (4 * p) 4 v) count first used small (omega (arith, few))
    ∙ ap (λ x. entries_from (with_number bytes (4 * p) 4 v) count first used ++ x ∷ []) (number_at-same bytes (4 * p) v (omega (arith, slot, room)) fits)
    ∙ ap (λ xs. xs ++ v ∷ []) (entries_from-kept bytes count p v first used small slot (omega (arith, few)) room
    (λ i less is. slot_after-other count first i used small less (omega (arith, few)) is))

-- ---- the entries one by one

pub slice_get_entries : (bytes : List ℕ) (count first n k : ℕ) → first < count → n < count → k < n → slice_get (entries_from bytes count first n) k
    ≡ Some (number_at bytes (4 * slot_after count first k) 4)
slice_get_entries bytes count first zero k small few less = absurd (omega (arith, less))
slice_get_entries bytes count first (suc n) zero small few less =
    ap (λ p. Some (number_at bytes (4 * p) 4)) (elim (slot_cases count first 0) [
      | inl c ↦ omega (arith, c.1)
      | inr c ↦ absurd (omega (arith, c.0, small))
    ])
slice_get_entries bytes count first (suc n) (suc k) small few less =
    slice_get_entries bytes count (next_slot count first) n k (next_slot-small count first small) (omega (arith, few)) (omega (arith, less))
    ∙ ap (λ p. Some (number_at bytes (4 * p) 4)) (slot_after-next count first k small (omega (arith, few, less)))

-- ---- what the calls cite

pub counted : (bytes : List ℕ) (count first used : ℕ) → used ≡ length (entries_from bytes count first used)
counted bytes count first used = sym (length_entries bytes count first used)

pub entry_at : (bytes : List ℕ) (count first n k : ℕ) → first < count → n < count → k < n → Some (number_at bytes (4 * slot_after count first k) 4)
    ≡ slice_get (entries_from bytes count first n) k
entry_at bytes count first n k small few less = sym (slice_get_entries bytes count first n k small few less)

pub no_entry_at : (bytes : List ℕ) (count first n k : ℕ) → n ≤ k → None ≡ slice_get (entries_from bytes count first n) k
no_entry_at bytes count first n k past = sym (slice_get_past (entries_from bytes count first n) k (let long = length_entries bytes count first n in
    omega (arith, long, past)))

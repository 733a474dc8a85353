-- Several entries stored or taken at once: in consecutive slots up to the end, and the rest from slot 0 on.
use Rattle.std.proofs.Common.{◌≡◌, ℕ, suc, ◌+◌, ◌-◌, ◌*◌, ◌<◌, ◌≤◌, ltb, List, [], ◌∷◌, ◌++◌, length, take, drop, refl, sym, ap, ◌∙◌, arith, inl, inr}
use Rattle.std.specs.Prelude.{◌⊎◌, slice_index}
use lib.ListN.{length-append, length-drop}
use Rattle.std.proofs.lemmas.Bool.{ltb-true, ltb-false, cases_Bool}
use Rattle.std.proofs.lemmas.Option.{get_or_from_slice_get}
use Rattle.std.proofs.lemmas.List.{ext_get_or, get_or-take, get_or-drop, get_or_append_left, get_or-append_right, length-take-le}
use Rattle.dp_region.specs.Region.{number_at}
use Rattle.dp_ring.specs.Rings.{next_slot, entries_from, slot_after, IsRun, Stores}
use Rattle.dp_ring.proofs.Entries.{slot_cases, slot_after-next, next_slot-small, slot_after-small, slice_get_entries, length_entries}

-- one entry of the list
entry_is : (bytes : List ℕ) (count first n k : ℕ) → first < count → n < count → k < n → slice_index (entries_from bytes count first n) k
    ≡ number_at bytes (4 * slot_after count first k) 4
entry_is bytes count first n k small few less =
    get_or_from_slice_get (entries_from bytes count first n) k (number_at bytes (4 * slot_after count first k) 4) 0
    (slice_get_entries bytes count first n k small few less)

here : (count first : ℕ) → first < count → slot_after count first 0 ≡ first
here count first small = elim (slot_cases count first 0) [
  | inl c ↦ omega (arith, c.1)
  | inr c ↦ absurd (omega (arith, c.0, small))
]

-- the entries are these if each number is
entries_are : (bytes : List ℕ) (count first : ℕ) (es : List ℕ) → first < count → length es < count
    → ((i : ℕ) → i < length es → number_at bytes (4 * slot_after count first i) 4 ≡ slice_index es i)
    → entries_from bytes count first (length es) ≡ es
entries_are bytes count first [] small few each = refl
entries_are bytes count first (e ∷ es) small few each =
    ap (λ x. x ∷ entries_from bytes count (next_slot count first) (length es)) (ap (λ p. number_at bytes (4 * p) 4) (sym (here count first small))
    ∙ each 0 (omega arith))
    ∙ ap (λ xs. e ∷ xs) (entries_are bytes count (next_slot count first) es (next_slot-small count first small) (omega (arith, few)) (λ i less.
    ap (λ p. number_at bytes (4 * p) 4) (slot_after-next count first i small (omega (arith, few, less))) ∙ each (suc i) (omega (arith, less))))

-- ---- slots: of m numbers appended to `used` entries, n fit before the slots begin again

module _ (count first used m n : ℕ) (small : first < count) (few : used + m < count) (most : n ≤ m) (fits : n ≤ count - slot_after count first used)
    (cut : (n ≡ m) ⊎ (n ≡ count - slot_after count first used)) where
  -- the first n are consecutive
  before_turn : (j : ℕ) → j < n → slot_after count first (used + j) ≡ slot_after count first used + j
  before_turn j less = elim (slot_cases count first used) [
    | inl a ↦ elim (slot_cases count first (used + j)) [
      | inl b ↦ omega (arith, a.1, b.1)
      | inr b ↦ absurd (omega (arith, a.1, b.0, less, fits))
    ]
    | inr a ↦ elim (slot_cases count first (used + j)) [
      | inl b ↦ absurd (omega (arith, a.0, b.0))
      | inr b ↦ omega (arith, a.0, a.1, b.1)
    ]
  ]

  -- the others lie from slot 0 on
  after_turn : (j : ℕ) → n ≤ j → j < m → slot_after count first (used + j) ≡ j - n
  after_turn j past less = elim cut [
    | inl e ↦ absurd (omega (arith, e, past, less))
    | inr e ↦ elim (slot_cases count first used) [
      | inl a ↦ elim (slot_cases count first (used + j)) [
        | inl b ↦ absurd (omega (arith, a.1, b.0, e, past))
        | inr b ↦ omega (arith, a.0, a.1, b.1, e, past)
      ]
      | inr a ↦ absurd (omega (arith, a.0, a.1, e, past, less, small, few))
    ]
  ]

  -- they lie below the entries and the first n
  turned_below : (i : ℕ) → i < used + n → m - n ≤ slot_after count first i
  turned_below i less = elim cut [
    | inl e ↦ omega (arith, e)
    | inr e ↦ elim (slot_cases count first used) [
      | inl a ↦ elim (slot_cases count first i) [
        | inl b ↦ omega (arith, a.0, a.1, b.1, e, few, small)
        | inr b ↦ absurd (omega (arith, a.0, a.1, b.0, e, less))
      ]
      | inr a ↦ absurd (omega (arith, a.0, a.1, e, most, small, few))
    ]
  ]

  -- the first n lie outside the entries
  beside : (i : ℕ) → i < used → (slot_after count first i + 1 ≤ slot_after count first used)
      ⊎ (slot_after count first used + n ≤ slot_after count first i)
  beside i less = elim (slot_cases count first used) [
    | inl a ↦ elim (slot_cases count first i) [
      | inl b ↦ inl (omega (arith, a.1, b.1, less))
      | inr b ↦ absurd (omega (arith, a.0, b.0, less))
    ]
    | inr a ↦ elim (slot_cases count first i) [
      | inl b ↦ inr (omega (arith, a.0, a.1, b.1, most, few))
      | inr b ↦ inl (omega (arith, a.1, b.1, a.0, b.0, less))
    ]
  ]

-- ---- m numbers are appended

stored_length : (bytes : List ℕ) (count first used : ℕ) (values : List ℕ) → length (entries_from bytes count first used ++ values) ≡ used + length values
stored_length bytes count first used values = length-append (entries_from bytes count first used) values
    ∙ ap (λ k. k + length values) (length_entries bytes count first used)

pub entries_stored : (count first used n : ℕ) (values old mid new : List ℕ) → first < count → used + length values < count → 4 * count ≤ length old
    → n ≤ length values → n ≤ count - slot_after count first used → (n ≡ length values) ⊎ (n ≡ count - slot_after count first used)
    → Stores (slot_after count first used) (take n values) old mid → Stores 0 (drop n values) mid new
    → entries_from new count first (used + length values) ≡ entries_from old count first used ++ values
entries_stored count first used n values old mid new small few room most fits cut front back =
    let m = length values in
    let p = slot_after count first used in
    let es = entries_from old count first used in
    let all = stored_length old count first used values in
    let front_long = length-take-le n values most in
    let back_long = length-drop n values in
    -- a slot outside the second run and, if it holds an entry, outside the first
    let kept_by_back : (i : ℕ) → i < used + n → number_at new (4 * slot_after count first i) 4 ≡ number_at mid (4 * slot_after count first i) 4 = λ i less.
    let slot = slot_after-small count first i small (omega (arith, less, few, most)) in
    let off = turned_below count first used m n small few most fits cut i less in
    back.others (4 * slot_after count first i) (omega (arith, slot, room, front.long)) (inr (omega (arith, off, back_long))) in
    ap (λ k. entries_from new count first k) (sym all)
    ∙ entries_are new count first (es ++ values) small (omega (arith, all, few)) (λ i less. elim (cases_Bool (ltb i used)) [
      | inl yes' ↦
          let under = ltb-true i used yes' in
          let slot = slot_after-small count first i small (omega (arith, under, few)) in
          let off : (4 * slot_after count first i + 4 ≤ 4 * p) ⊎ (4 * (p + length (take n values)) ≤ 4 * slot_after count first i) =
          elim (beside count first used m n small few most fits cut i under) [
            | inl a ↦ inl (omega (arith, a))
            | inr b ↦ inr (omega (arith, b, front_long))
          ] in
          kept_by_back i (omega (arith, under))
          ∙ (front.others (4 * slot_after count first i) (omega (arith, slot, room)) off
          ∙ (sym (entry_is old count first used i small (omega (arith, few)) under)
          ∙ sym (get_or_append_left es values 0 i (omega (arith, under, length_entries old count first used)))))
      | inr no' ↦
          let past = ltb-false i used no' in
          let j = i - used in
          let is : i ≡ used + j = omega (arith, past) in
          let right = get_or-append_right es values used i 0 (length_entries old count first used) past in
          elim (cases_Bool (ltb j n)) [
            | inl near ↦
                let under = ltb-true j n near in
                let at = ap (slot_after count first) is ∙ before_turn count first used m n small few most fits cut j under in
                kept_by_back i (omega (arith, under, past))
                ∙ (ap (λ q. number_at mid (4 * q) 4) at
                ∙ (front.stored j (omega (arith, under, front_long))
                ∙ (get_or-take n values j 0 under ∙ sym right)))
            | inr far ↦
                let over = ltb-false j n far in
                let within : j < m = omega (arith, less, all, past) in
                let at : slot_after count first i ≡ 0 + (j - n) = ap (slot_after count first) is
                ∙ (after_turn count first used m n small few most fits cut j over within ∙ omega arith) in
                let k : n + (j - n) ≡ j = omega (arith, over) in
                ap (λ q. number_at new (4 * q) 4) at
                ∙ (back.stored (j - n) (omega (arith, over, within, back_long))
                ∙ (get_or-drop n values (j - n) 0 ∙ (ap (slice_index values) k ∙ sym right)))
          ]
    ])

-- ---- m entries are taken from the front

from_first : (count first : ℕ) → first < count → count - slot_after count first 0 ≡ count - first
from_first count first small = ap (λ p. count - p) (here count first small)

pub entries_loaded : (count first used m n : ℕ) (bytes front back : List ℕ) → first < count → used < count → m ≤ used
    → n ≤ m → n ≤ count - first → (n ≡ m) ⊎ (n ≡ count - first) → length front ≡ n → length back ≡ m - n
    → IsRun bytes first front → IsRun bytes 0 back → front ++ back ≡ take m (entries_from bytes count first used)
entries_loaded count first used m n bytes front back small few all most fits cut front_long back_long near far =
    let es = entries_from bytes count first used in
    let es_long = length_entries bytes count first used in
    let first_is = here count first small in
    let fits' : n ≤ count - slot_after count first 0 = omega (arith, fits, first_is) in
    let cut' : (n ≡ m) ⊎ (n ≡ count - slot_after count first 0) = elim cut [ inl e ↦ inl e | inr e ↦ inr (e ∙ sym (from_first count first small)) ] in
    let few' : 0 + m < count = omega (arith, few, all) in
    let taken = length-take-le m es (omega (arith, es_long, all)) in
    let whole = length-append front back in
    ext_get_or 0 (front ++ back) (take m es) (omega (arith, whole, taken, front_long, back_long, most)) (λ j less.
    let within : j < m = omega (arith, less, whole, front_long, back_long, most) in
    let entry = get_or-take m es j 0 within ∙ entry_is bytes count first used j small few (omega (arith, within, all)) in
    let zero_more : 0 + j ≡ j = omega arith in
    elim (cases_Bool (ltb j n)) [
      | inl yes' ↦
          let under = ltb-true j n yes' in
          let at : slot_after count first j ≡ first + j = ap (slot_after count first) (sym zero_more)
          ∙ (before_turn count first 0 m n small few' most fits' cut' j under ∙ ap (λ p. p + j) first_is) in
          get_or_append_left front back 0 j (omega (arith, under, front_long))
          ∙ (sym (near j (omega (arith, under, front_long))) ∙ (ap (λ q. number_at bytes (4 * q) 4) (sym at) ∙ sym entry))
      | inr no' ↦
          let over = ltb-false j n no' in
          let at : slot_after count first j ≡ 0 + (j - n) = ap (slot_after count first) (sym zero_more)
          ∙ (after_turn count first 0 m n small few' most fits' cut' j over within ∙ omega arith) in
          get_or-append_right front back n j 0 front_long over
          ∙ (sym (far (j - n) (omega (arith, over, within, back_long))) ∙ (ap (λ q. number_at bytes (4 * q) 4) (sym at) ∙ sym entry))
    ])

-- places after a slot add up
slot_after-twice : (count first m i : ℕ) → first < count → m + i < count → slot_after count (slot_after count first m) i
    ≡ slot_after count first (m + i)
slot_after-twice count first m i small few = elim (slot_cases count first m) [
  | inl a ↦ elim (slot_cases count (slot_after count first m) i) [
    | inl b ↦ elim (slot_cases count first (m + i)) [
      | inl d ↦ omega (arith, a.1, b.1, d.1)
      | inr d ↦ absurd (omega (arith, a.1, b.0, d.0))
    ]
    | inr b ↦ elim (slot_cases count first (m + i)) [
      | inl d ↦ absurd (omega (arith, a.1, b.0, d.0))
      | inr d ↦ omega (arith, a.1, b.1, d.1)
    ]
  ]
  | inr a ↦ elim (slot_cases count (slot_after count first m) i) [
    | inl b ↦ elim (slot_cases count first (m + i)) [
      | inl d ↦ absurd (omega (arith, a.0, d.0))
      | inr d ↦ omega (arith, a.0, a.1, b.1, d.1)
    ]
    | inr b ↦ absurd (omega (arith, a.0, a.1, b.0, small, few))
  ]
]

-- the others are left
pub entries_left : (bytes : List ℕ) (count first used m : ℕ) → first < count → used < count → m ≤ used
    → entries_from bytes count (slot_after count first m) (used - m) ≡ drop m (entries_from bytes count first used)
entries_left bytes count first used m small few all =
    let es = entries_from bytes count first used in
    let es_long = length_entries bytes count first used in
    let left = length-drop m es in
    let is : length (drop m es) ≡ used - m = omega (arith, left, es_long) in
    ap (λ k. entries_from bytes count (slot_after count first m) k) (sym is)
    ∙ entries_are bytes count (slot_after count first m) (drop m es) (slot_after-small count first m small (omega (arith, few, all)))
    (omega (arith, is, few)) (λ i less.
    let within : m + i < used = omega (arith, less, is, all) in
    ap (λ q. number_at bytes (4 * q) 4) (slot_after-twice count first m i small (omega (arith, within, few)))
    ∙ (sym (entry_is bytes count first used (m + i) small few within) ∙ sym (get_or-drop m es i 0)))

-- The first ring with an entry, as rings change.
use Rattle.std.proofs.Common.{◌≡◌, ◌≢◌, ℕ, suc, ◌+◌, ◌<◌, ◌≤◌, Bool, true, false, not, List, length, refl, sym, ◌∙◌, ap, arith, set, ltb}
use Rattle.std.proofs.Common.{[], ◌∷◌, ◌++◌, length-append, Some, None, cond}
use Rattle.std.specs.Prelude.{◌==◌, nat_lt, if◌then◌else◌, slice_get}
use Rattle.std.specs.List.{position, position_or_len}
use Rattle.std.proofs.lemmas.Option.{same_Some}
use Rattle.std.proofs.lemmas.List.{length-set, get_or-set_other, get_or-set_same}
use Rattle.std.proofs.lemmas.List.Sums.{passes_at_first, fails_before_first, position_or_len_is, prefix_len-le-length}
use Rattle.std.proofs.lemmas.Bool.{ltb-true, ltb-false, eqb-true}
use Rattle.dp_ring.specs.Rings.{RingView, room_in, with_more}
use Rattle.dp_engine.specs.Queues.{no_ring, ring_at, is_waiting}

-- the number of the first that waits; the number of rings where none does
abbrev pub first_slot : List RingView → ℕ
first_slot rings = position_or_len is_waiting rings

pub within : (rings : List RingView) → first_slot rings ≤ length rings
within rings = prefix_len-le-length (λ r. not (is_waiting r)) rings

pub first_waits : (rings : List RingView) → first_slot rings < length rings → is_waiting (ring_at rings (first_slot rings)) ≡ true
first_waits rings there = passes_at_first is_waiting rings no_ring there

true_false : true ≡ false → ⊥
true_false e = cc

-- where none of the first ones waits, the first that does comes later
pub beyond : (rings : List RingView) (k : ℕ) → k ≤ length rings → ((j : ℕ) → j < k → is_waiting (ring_at rings j) ≡ false) → k ≤ first_slot rings
beyond rings k there idle = cases (ltb (first_slot rings) k) refl
  where
    cases : (b : Bool) → ltb (first_slot rings) k ≡ b → k ≤ first_slot rings
    cases false not' = ltb-false _ _ not'
    cases true before =
        let lt : first_slot rings < k = ltb-true _ _ before in
        let here : is_waiting (ring_at rings (first_slot rings)) ≡ true = passes_at_first is_waiting rings no_ring (omega (arith, lt, there)) in
        absurd (true_false (sym here ∙ idle (first_slot rings) lt))

-- one that does not wait is skipped
pub stepped : (rings : List RingView) (k : ℕ) → k ≤ first_slot rings → k < length rings → is_waiting (ring_at rings k) ≡ false → suc k ≤ first_slot rings
stepped rings k from there idle = beyond rings (suc k) (omega arith) below
  where
    below : (j : ℕ) → j < suc k → is_waiting (ring_at rings j) ≡ false
    below j lt = go (ltb j k) refl
      where
        go : (b : Bool) → ltb j k ≡ b → is_waiting (ring_at rings j) ≡ false
        go true e =
            let l : j < k = ltb-true _ _ e in
            fails_before_first is_waiting rings j no_ring (omega (arith, l, from))
        go false e =
            let g : k ≤ j = ltb-false _ _ e in
            let same : j ≡ k = omega (arith, g, lt) in
            ap (λ i. is_waiting (ring_at rings i)) same ∙ idle

-- one that waits is the first, where none before it does
pub here : (rings : List RingView) (k : ℕ) → k ≤ first_slot rings → k < length rings → is_waiting (ring_at rings k) ≡ true → k ≡ first_slot rings
here rings k from there waits = cases (ltb k (first_slot rings)) refl
  where
    cases : (b : Bool) → ltb k (first_slot rings) ≡ b → k ≡ first_slot rings
    cases false e =
        let l : first_slot rings ≤ k = ltb-false _ _ e in
        omega (arith, l, from)
    cases true e =
        let idle : is_waiting (ring_at rings k) ≡ false = fails_before_first is_waiting rings k no_ring (ltb-true _ _ e) in
        absurd (true_false (sym waits ∙ idle))

-- no entry, and none waits
pub idle_is : (r : RingView) → length r.entries ≡ 0 → is_waiting r ≡ false
idle_is r e = ap (λ n. not (n == 0)) e

pub waits_is : (r : RingView) → length r.entries ≢ 0 → is_waiting r ≡ true
waits_is r some = go (length r.entries == 0) refl
  where
    go : (b : Bool) → (length r.entries == 0) ≡ b → is_waiting r ≡ true
    go false e = ap not e
    go true e = absurd (some (eqb-true _ _ e))

-- what a search for the first that waits returns
pub first_is : (rings : List RingView) (k : ℕ) → position is_waiting rings ≡ Some k → (k ≡ first_slot rings) × (k < length rings)
first_is rings k found = go (nat_lt (first_slot rings) (length rings)) refl found
  where
    go : (b : Bool) → nat_lt (first_slot rings) (length rings) ≡ b → cond b (Some (first_slot rings)) None ≡ Some k →
        (k ≡ first_slot rings) × (k < length rings)
    go true e s =
        let same : k ≡ first_slot rings = sym (same_Some _ _ s) in
        let lt : first_slot rings < length rings = ltb-true _ _ e in
        (same, omega (arith, same, lt))
    go false e s = cc

-- one that waits has an entry
pub has_entry : (r : RingView) → is_waiting r ≡ true → None ≡ slice_get r.entries 0 → ⊥
has_entry r waits none = go r.entries waits none
  where
    go : (es : List ℕ) → not (length es == 0) ≡ true → None ≡ slice_get es 0 → ⊥
    go [] waits none = cc
    go (x ∷ es) waits none = cc

-- ---- where one of them changes

-- none before the changed one and before the first waits
below : (rings : List RingView) (k j : ℕ) (r : RingView) → j < k → j < first_slot rings → is_waiting (ring_at (set rings k r) j) ≡ false
below rings k j r lt first =
    let other : j ≢ k = λ e. omega (arith, lt, e) in
    ap is_waiting (get_or-set_other rings k j r no_ring other) ∙ fails_before_first is_waiting rings j no_ring first

-- the first stays where a later one changes
pub stays : (rings : List RingView) (k : ℕ) (r : RingView) → first_slot rings < k → k < length rings → first_slot (set rings k r) ≡ first_slot rings
stays rings k r lt there =
    position_or_len_is is_waiting (set rings k r) (first_slot rings) no_ring (omega (arith, length-set rings k r, within rings))
    (λ j l. below rings k j r (omega (arith, l, lt)) l)
    (λ l. ap is_waiting (get_or-set_other rings k (first_slot rings) r no_ring (λ e. omega (arith, lt, e)))
    ∙ passes_at_first is_waiting rings no_ring (omega (arith, lt, there)))

-- it does not come before a changed one, if it did not
pub not_before : (rings : List RingView) (k : ℕ) (r : RingView) → k ≤ first_slot rings → k < length rings → k ≤ first_slot (set rings k r)
not_before rings k r from there =
    beyond (set rings k r) k (omega (arith, length-set rings k r, there)) (λ j l. below rings k j r l (omega (arith, l, from)))

-- a changed one that waits is the first, where it comes before the first
pub comes_first : (rings : List RingView) (k : ℕ) (r : RingView) → k < first_slot rings → k < length rings → is_waiting r ≡ true →
    first_slot (set rings k r) ≡ k
comes_first rings k r lt there waits =
    position_or_len_is is_waiting (set rings k r) k no_ring (omega (arith, length-set rings k r, there))
    (λ j l. below rings k j r l (omega (arith, l, lt)))
    (λ l. ap is_waiting (get_or-set_same rings k r no_ring there) ∙ waits)

-- the first stays where it is the changed one and still waits, or comes before
pub no_earlier : (rings : List RingView) (k : ℕ) (r : RingView) → first_slot rings ≤ k → k < length rings → is_waiting r ≡ true → first_slot (set rings k r)
    ≡ first_slot rings
no_earlier rings k r le there waits = cases (ltb (first_slot rings) k) refl
  where
    cases : (b : Bool) → ltb (first_slot rings) k ≡ b → first_slot (set rings k r) ≡ first_slot rings
    cases true e = stays rings k r (ltb-true _ _ e) there
    cases false e =
        let l : k ≤ first_slot rings = ltb-false _ _ e in
        let same : k ≡ first_slot rings = omega (arith, l, le) in
        sym (here (set rings k r) k (not_before rings k r l there) (omega (arith, length-set rings k r, there))
        (ap is_waiting (get_or-set_same rings k r no_ring there) ∙ waits)) ∙ same

-- ---- an entry more, or one less

-- a ring that took an entry waits, so it is the first where it comes before the first; where it took none nothing changes
pub record IsPut (rings rings' : List RingView) (k : ℕ) (taken : Bool) : Type 0 where
  pub earlier : taken ≡ true → k < first_slot rings → k ≡ first_slot rings'
  pub later : taken ≡ true → first_slot rings ≤ k → first_slot rings ≡ first_slot rings'
  pub full : taken ≡ false → first_slot rings ≡ first_slot rings'

more_waits : (r : RingView) (entry : ℕ) → is_waiting (with_more r (entry ∷ [])) ≡ true
more_waits r entry = waits_is (with_more r (entry ∷ [])) (λ e. (let long : length (r.entries ++ entry ∷ []) ≡ length r.entries + 1 =
    length-append r.entries (entry ∷ []) in omega (arith, long, e)))

pub put_is : (rings rings' : List RingView) (k entry : ℕ) (taken : Bool) → k < length rings → taken ≡ nat_lt 0 (room_in (ring_at rings k))
    → rings' ≡ (if nat_lt 0 (room_in (ring_at rings k)) then set rings k (with_more (ring_at rings k) (entry ∷ [])) else rings) → IsPut rings rings' k taken
put_is rings rings' k entry taken there is became =
    let r : RingView = with_more (ring_at rings k) (entry ∷ []) in
    let where_it : (b : Bool) → taken ≡ b → rings' ≡ (if b then set rings k r else rings) = λ b t.
    became ∙ ap (λ (b : Bool). if b then set rings k r else rings) (sym is ∙ t) in
    record {
      earlier = λ t lt. sym (ap first_slot (where_it true t) ∙ comes_first rings k r lt there (more_waits (ring_at rings k) entry));
      later = λ t le. sym (ap first_slot (where_it true t) ∙ no_earlier rings k r le there (more_waits (ring_at rings k) entry));
      full = λ t. sym (ap first_slot (where_it false t));
    }

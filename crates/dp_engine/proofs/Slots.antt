-- Slots for rings, and the rings in them.
use Rattle.std.proofs.Common.{◌≡◌, ℕ, zero, suc, ◌+◌, ◌<◌, ◌≤◌, cond, Bool, true, false, List, [], ◌∷◌, length, Option, Some, None, refl, sym, ◌∙◌, ap, subst}
use Rattle.std.proofs.Common.{arith, get_or, set}
use Rattle.std.specs.Prelude.{is_none, unwrap_or, IsSome}
use Rattle.std.specs.List.{position, position_from}
use Rattle.std.proofs.lemmas.List.{length-set, set-get_or, get_or-set_same}
use Rattle.std.proofs.lemmas.Iterator.Adapters.{position_from-zero}
use Rattle.dp_ring.specs.Rings.{RingView}
use Rattle.dp_engine.specs.Queues.{rings_in, RingsFirst, no_ring, ring_at, ring_of}

pub rings_below : (slots : List (Option RingView)) → length (rings_in slots) ≤ length slots
rings_below [] = omega arith
rings_below (None ∷ slots) = omega arith
rings_below (Some r ∷ slots) = let rest = rings_below slots in omega (arith, rest)

pub ring_there : (slots : List (Option RingView)) (k : ℕ) (d : Option RingView) → k < length (rings_in slots) →
    get_or slots k d ≡ Some (ring_at (rings_in slots) k)
ring_there [] k d there = absurd (omega arith)
ring_there (None ∷ slots) k d there = absurd (omega arith)
ring_there (Some r ∷ slots) zero d there = refl
ring_there (Some r ∷ slots) (suc k) d there = ring_there slots k d (omega arith)

set_in : (slots : List (Option RingView)) (k : ℕ) (r : RingView) → k < length (rings_in slots) → rings_in (set slots k (Some r)) ≡ set (rings_in slots) k r
set_in [] k r there = absurd (omega arith)
set_in (None ∷ slots) k r there = absurd (omega arith)
set_in (Some q ∷ slots) zero r there = refl
set_in (Some q ∷ slots) (suc k) r there = ap (λ rs. q ∷ rs) (set_in slots k r (omega arith))

first_set : (slots : List (Option RingView)) (k : ℕ) (r : RingView) → RingsFirst slots → k < length (rings_in slots) → RingsFirst (set slots k (Some r))
first_set [] k r first there = absurd (omega arith)
first_set (None ∷ slots) k r first there = absurd (omega arith)
first_set (Some q ∷ slots) zero r first there = first
first_set (Some q ∷ slots) (suc k) r first there = first_set slots k r first (omega arith)

-- ---- the first slot of a kind

filled_from : (slots : List (Option RingView)) (i : ℕ) → unwrap_or (position_from is_none i slots) (i + length slots) ≡ i + length (rings_in slots)
filled_from [] i = refl
filled_from (None ∷ slots) i = omega arith
filled_from (Some r ∷ slots) i =
    let more : i + suc (length slots) ≡ i + 1 + length slots = omega arith in
    let same : i + 1 + length (rings_in slots) ≡ i + suc (length (rings_in slots)) = omega arith in
    ap (unwrap_or (position_from is_none (i + 1) slots)) more ∙ (filled_from slots (i + 1) ∙ same)

-- ---- rings by their numbers

pub set_where : (b : Bool) (rings : List RingView) (k : ℕ) (r : RingView) → set rings k (cond b r (ring_at rings k)) ≡ cond b (set rings k r) rings
set_where true rings k r = refl
set_where false rings k r = set-get_or rings k no_ring

-- ---- a struct's slots

module _ (slots : List (Option RingView)) (rings : List RingView) (same : rings_in slots ≡ rings) (inv : (length slots ≡ 8) × RingsFirst slots) where
  pub listed : (j k : ℕ) → j ≡ k → k < length rings → (j < length slots) × (j < 8)
  listed j k at there =
      let b : length (rings_in slots) ≤ length slots = rings_below slots in
      let e : length (rings_in slots) ≡ length rings = ap length same in
      (omega (arith, at, b, e, there), omega (arith, at, b, e, there, inv.0))

  filled_at : (j k : ℕ) (d : Option RingView) → j ≡ k → k < length rings → get_or slots j d ≡ Some (ring_at rings k)
  filled_at j k d at there = ap (λ i. get_or slots i d) at
      ∙ subst (λ rs. get_or slots k d ≡ Some (ring_at rs k)) same (ring_there slots k d (subst (λ rs. k < length rs) (sym same) there))

  pub has_ring : (j k : ℕ) (d : Option RingView) → j ≡ k → k < length rings → IsSome (get_or slots j d)
  has_ring j k d at there = subst IsSome (sym (filled_at j k d at there)) refl

  pub counted : unwrap_or (position is_none slots) 8 ≡ length rings
  counted =
      let long : 8 ≡ 0 + length slots = omega (arith, inv.0) in
      let many : 0 + length (rings_in slots) ≡ length rings = omega (arith, ap length same) in
      ap (λ o. unwrap_or o 8) (position_from-zero is_none slots)
      ∙ (ap (unwrap_or (position_from is_none 0 slots)) long ∙ (filled_from slots 0 ∙ many))

  pub at_most : length rings ≤ 8
  at_most = omega (arith, rings_below slots, ap length same, inv.0)

  -- the ring of a slot is the one of that number
  pub ring_is : (j k : ℕ) (d : Option RingView) → j ≡ k → k < length rings → ring_of (get_or slots j d) ≡ ring_at rings k
  ring_is j k d at there = ap ring_of (filled_at j k d at there)

  -- the rings after one of them has changed
  pub changed : (j k : ℕ) (d o : Option RingView) (f : RingView → RingView) → j ≡ k → k < length rings → o ≡ Some (f (ring_of (get_or slots j d))) →
      ((length (set slots j o) ≡ 8) × RingsFirst (set slots j o)) × (rings_in (set slots j o) ≡ set rings k (f (ring_at rings k)))
  changed j k d o f at there is =
      let inside : k < length (rings_in slots) = subst (λ rs. k < length rs) (sym same) there in
      let now : o ≡ Some (f (ring_at rings k)) = is ∙ ap (λ r. Some (f r)) (ring_is j k d at there) in
      rw at (
        (
          length-set slots k o ∙ inv.0,
          subst (λ x. RingsFirst (set slots k x)) (sym now) (first_set slots k (f (ring_at rings k)) inv.1 inside),
        ),
        ap (λ x. rings_in (set slots k x)) now
            ∙ (set_in slots k (f (ring_at rings k)) inside ∙ ap (λ rs. set rs k (f (ring_at rings k))) same),
      )

  -- and that ring, which is in the slot
  pub ring_now : (j k : ℕ) (d o : Option RingView) (f : RingView → RingView) → j ≡ k → k < length rings → o ≡ Some (f (ring_of (get_or slots j d))) →
      ring_of o ≡ ring_at (rings_in (set slots j o)) k
  ring_now j k d o f at there is =
      ap ring_of is
      ∙ (ap f (ring_is j k d at there)
      ∙ sym (ap (λ rs. ring_at rs k) (changed j k d o f at there is).1 ∙ get_or-set_same rings k (f (ring_at rings k)) no_ring there))

  -- and their number
  pub renewed : (j k : ℕ) (d o : Option RingView) (f : RingView → RingView) (count : ℕ) → j ≡ k → k < length rings
      → o ≡ Some (f (ring_of (get_or slots j d))) → count ≡ length (rings_in slots)
      → ((length (set slots j o) ≡ 8) × RingsFirst (set slots j o)) × (count ≡ length (rings_in (set slots j o)))
  renewed j k d o f count at there is count_is =
      let now = changed j k d o f at there is in
      let many : length (rings_in (set slots j o)) ≡ length rings = ap length now.1 ∙ length-set rings k (f (ring_at rings k)) in
      let before : length (rings_in slots) ≡ length rings = ap length same in
      (now.0, omega (arith, many, before, count_is))

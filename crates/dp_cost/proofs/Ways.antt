-- The longest ways of a program that never jumps back, found from its last label to its first.
use Rattle.std.proofs.Common.{◌≡◌, ◌⊎◌, ◌≢◌, ℕ, zero, suc, ◌+◌, ◌<◌, ◌≤◌, max, Bool, true, false, cond, List, [], ◌∷◌, length, replicate}
use Rattle.std.proofs.Common.{Option, Some, None, refl, sym, ◌∙◌, ap, subst, arith, inl, inr, ⊎_elim}
use Rattle.std.specs.Prelude.{slice_get, slice_index_or, slice_set, nat_le}
use Rattle.std.specs.Option.{option_map_or}
use Rattle.std.proofs.lemmas.Bool.{leb-false}
use Rattle.std.proofs.lemmas.Option.{same_Some}
use Rattle.dp_model.specs.declared.instr.Instr.{Instr}
use Rattle.std.proofs.lemmas.List.{get_or-set_same, get_or-set_other}
use Rattle.std.proofs.lemmas.Bool.{cases_eq}
use Rattle.dp_model.specs.Laws.Lists.{get_replicate}
use Rattle.dp_model.specs.Jumps.{IsForward}
use Rattle.dp_model.specs.Needs.{label_of}
use Rattle.dp_cost.specs.Costs.{goes_on, LeadsTo, jumps_back, HasWay, IsLongest, way_at, way_from}

-- what never jumps back names later labels alone
ahead : (o : Option ℕ) (label to : ℕ) → option_map_or (λ to. nat_le to label) o false ≡ false → o ≡ Some to → label < to
ahead None label to later named = absurd cc
ahead (Some l) label to later named = let same = same_Some l to named in omega (arith, leb-false l label later, same)

pub forward : (program : List Instr) → ((k : ℕ) (i : Instr) → slice_get program k ≡ Some i → jumps_back k i ≡ false) → IsForward program
forward program never label to i here named = ahead (label_of i) label to (never label i here) named

-- a label that control can go to is a later one
leads_ahead : (program : List Instr) (label to : ℕ) (i : Instr) → IsForward program → slice_get program label ≡ Some i → LeadsTo label i to → label < to
leads_ahead program label to i ahead here (inl (on, next)) = omega (arith, next)
leads_ahead program label to i ahead here (inr named) = ahead label to i here named

pub within : {X : Type 0} (xs : List X) (k : ℕ) (x : X) → slice_get xs k ≡ Some x → k < length xs
within [] k x there = absurd cc
within (y ∷ xs) zero x there = omega arith
within (y ∷ xs) (suc k) x there = let less = within xs k x there in omega (arith, less)

-- what fails of each element before one, and of that one, fails of each before the next
pub one_more : {X : Type 0} (f : ℕ → X → Bool) (xs : List X) (n : ℕ) (x : X) → slice_get xs n ≡ Some x → f n x ≡ false
    → ((k : ℕ) (y : X) → k < n → slice_get xs k ≡ Some y → f k y ≡ false) → (k : ℕ) (y : X) → k < n + 1 → slice_get xs k ≡ Some y → f k y ≡ false
one_more f xs n x here fails before k y less there =
    ⊎_elim
    (λ same.
    subst (λ m. f m y ≡ false) (sym same)
    (subst (λ z. f n z ≡ false) (same_Some x y (sym here ∙ subst (λ m. slice_get xs m ≡ Some y) same there)) fails))
    (λ other. before k y (omega (arith, less, other)) there)
    (cases_eq k n)

-- so a way is no longer than what is left of the program
pub way_short : (program : List Instr) (n label : ℕ) → IsForward program → HasWay program n label → n ≤ length program
way_short program n label ahead way = bounded n label way
  where
    after : (n label : ℕ) → HasWay program (suc n) label → suc n + label ≤ length program
    after zero label (i, here, rest) = let less = within program label i here in omega (arith, less)
    after (suc n) label (i, here, inl none) = absurd (omega (arith, none))
    after (suc n) label (i, here, inr (to, leads, way)) =
        let more = after n to way in let further = leads_ahead program label to i ahead here leads in omega (arith, more, further)

    bounded : (n label : ℕ) → HasWay program n label → n ≤ length program
    bounded zero label way = omega arith
    bounded (suc n) label way = let few = after n label way in omega (arith, few)

-- no way begins past the end
pub longest_past : (program : List Instr) (label : ℕ) → length program ≤ label → IsLongest program label 0
longest_past program label past = record { there = tt; most = none }
  where
    none : (m : ℕ) → HasWay program m label → m ≤ 0
    none zero way = omega arith
    none (suc m) (i, here, rest) = let less = within program label i here in absurd (omega (arith, less, past))

module _ (program : List Instr) (ways : List ℕ) (label : ℕ) (i : Instr) (here : slice_get program label ≡ Some i)
    (later : (to : ℕ) → LeadsTo label i to → IsLongest program to (way_at ways to)) where
  abbrev next : Bool → ℕ
  next b = cond b (way_at ways (label + 1)) 0

  abbrev jump : Option ℕ → ℕ
  jump o = option_map_or (way_at ways) o 0

  -- the longer of the two ways
  longer : (b : Bool) → goes_on i ≡ b → (o : Option ℕ) → label_of i ≡ o → HasWay program (max (next b) (jump o) + 1) label
  longer b on o named = choose (max (next b) (jump o)) (max_is (next b) (jump o))
    where
      max_is : (x y : ℕ) → (max x y ≡ x) ⊎ (max x y ≡ y)
      max_is x y = grind arith

      step : (n to : ℕ) → LeadsTo label i to → HasWay program n to → HasWay program (suc n) label
      step n to leads way = (i, here, inr (to, leads, way))

      along_next : (b : Bool) → goes_on i ≡ b → HasWay program (suc (next b)) label
      along_next true on = step (way_at ways (label + 1)) (label + 1) (inl (on, refl)) (later (label + 1) (inl (on, refl))).there
      along_next false on = (i, here, inl refl)

      along_jump : (o : Option ℕ) → label_of i ≡ o → HasWay program (suc (jump o)) label
      along_jump None named = (i, here, inl refl)
      along_jump (Some to) named = step (way_at ways to) to (inr named) (later to (inr named)).there

      choose : (m : ℕ) → (m ≡ next b) ⊎ (m ≡ jump o) → HasWay program (m + 1) label
      choose m (inl is) = let more : suc (next b) ≡ m + 1 = omega (arith, is) in subst (λ k. HasWay program k label) more (along_next b on)
      choose m (inr is) = let more : suc (jump o) ≡ m + 1 = omega (arith, is) in subst (λ k. HasWay program k label) more (along_jump o named)

  reach : (to : ℕ) → LeadsTo label i to → way_at ways to + 1 ≤ way_from ways label i
  reach to (inl (on, is)) = rw (on, is) (left (way_at ways (label + 1)) (jump (label_of i)))
    where
      left : (x y : ℕ) → x + 1 ≤ max x y + 1
      left x y = grind arith
  reach to (inr named) = rw named (right (next (goes_on i)) (way_at ways to))
    where
      right : (x y : ℕ) → y + 1 ≤ max x y + 1
      right x y = grind arith

  most : (m : ℕ) → HasWay program m label → m ≤ way_from ways label i
  most zero way = omega arith
  most (suc n) (i', here', inl none) = omega (arith, none)
  most (suc n) (i', here', inr (to, leads, way)) =
      let same : i' ≡ i = same_Some i' i (sym here' ∙ here) in
      let leads' : LeadsTo label i to = subst (λ i. LeadsTo label i to) same leads in
      let few = (later to leads').most n way in omega (arith, few, reach to leads')

  pub longest_here : IsLongest program label (way_from ways label i)
  longest_here = record { there = longer (goes_on i) refl (label_of i) refl; most = most }

-- an instruction that was read is there
pub read : {X : Type 0} (xs : List X) (k : ℕ) (x : X) → k < length xs → x ≡ slice_index_or xs k x → slice_get xs k ≡ Some x
read [] k x less is = absurd (omega (arith, less))
read (y ∷ xs) zero x less is = ap Some (sym is)
read (y ∷ xs) (suc k) x less is = read xs k x (omega (arith, less)) is

-- before the first of them is found
pub none_yet : (program : List Instr) (n : ℕ) → (k : ℕ) → length program ≤ k → IsLongest program k (way_at (replicate n 0) k)
none_yet program n k past = rw (get_replicate {X = ℕ} n k 0) (longest_past program k past)

pub all_zero : (n k : ℕ) → way_at (replicate n 0) k ≤ 1024
all_zero n k = let none : way_at (replicate n 0) k ≡ 0 = get_replicate {X = ℕ} n k 0 in omega (arith, none)

-- one more is found
module _ (program : List Instr) (ways : List ℕ) (label : ℕ) (i : Instr) (ahead_all : IsForward program) (few : length program ≤ 1024)
    (here : slice_get program label ≡ Some i) (room : label < length ways)
    (known : (k : ℕ) → suc label ≤ k → IsLongest program k (way_at ways k)) (small : (k : ℕ) → way_at ways k ≤ 1024) where
  mine : IsLongest program label (way_from ways label i)
  mine = longest_here program ways label i here (λ to leads. let later = leads_ahead program label to i ahead_all here leads in known to (omega (arith, later)))

  same : way_at (slice_set ways label (way_from ways label i)) label ≡ way_from ways label i
  same = get_or-set_same ways label (way_from ways label i) 0 room

  other : (k : ℕ) → k ≢ label → way_at (slice_set ways label (way_from ways label i)) k ≡ way_at ways k
  other k apart = get_or-set_other ways label k (way_from ways label i) 0 apart

  pub filled : (k : ℕ) → label ≤ k → IsLongest program k (way_at (slice_set ways label (way_from ways label i)) k)
  filled k le = ⊎_elim
      (λ (e : k ≡ label). rw (e, same) mine)
      (λ (apart : k ≢ label). rw (other k apart) (known k (omega (arith, le, apart))))
      (cases_eq k label)

  pub still_small : (k : ℕ) → way_at (slice_set ways label (way_from ways label i)) k ≤ 1024
  still_small k = ⊎_elim
      (λ (e : k ≡ label). rw (e, same) (omega (arith, way_short program (way_from ways label i) label ahead_all mine.there, few)))
      (λ (apart : k ≢ label). rw (other k apart) (small k))
      (cases_eq k label)

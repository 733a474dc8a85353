-- Two rows that both entail a third have a strongest row in common.
use Rattle.std.proofs.Common.{◌≡◌, ℕ, min, max, Bool, true, false, ◌&&◌, List, [], ◌∷◌, refl, arith}
use Rattle.std.specs.Prelude.{nat_le, ◌==◌, slice_get, Option, Some, None}
use Rattle.std.specs.List.{AllZip, list_all, AllByRecursion}
use Rattle.std.proofs.lemmas.Bool.{leb-true, le-leb, and_parts, eq-eqb, ne_eqb, eqb-true, cases_eq, leb-false}
use Rattle.dp_model.specs.declared.row.Fact.{Fact}
use Rattle.dp_model.specs.declared.row.Fact.TheVariants.{Empty, Held}
use Rattle.dp_model.specs.declared.row.Row.{Row}
use Rattle.dp_model.specs.declared.row.Holding.{Holding}
use Rattle.dp_model.specs.Rows.{holding, held, entails_share, owns_head, is_fact_of_row, is_well_formed_row}
use Rattle.dp_model.specs.Facts.{is_share}
use Rattle.dp_model.specs.Groups.{group_of, is_in, is_group, group_size, same_registers, belongs, share_of_group, are_groups}
use Rattle.std.proofs.Common.{zero, suc, ◌+◌, ◌-◌, ◌≤◌, cond, ap, sym, ◌∙◌, subst, map, length, ⊎_elim, inl, inr}
use Rattle.std.specs.Option.{option_map_or}
use Rattle.dp_model.specs.Laws.Lists.{all_at}
use Rattle.dp_model.specs.Laws.Groups.{same_at, belongs_at, group_is, belongs_there, size_same, is_in_group, groups_of_row}
use Rattle.dp_model.specs.Laws.Cases.{by_cases}
use Rattle.dp_infer.proofs.Sharing.{KeepsGroups, share_same, share_zero, share_is, share_cases, same_from, all_from_each, one_of, and_comm}
use Rattle.dp_infer.specs.Joins.{joined_share, joined_fact, common_fact, joined_facts, paired, joined, met}
use Rattle.dp_infer.proofs.Stronger.{StrongerFact, AtMost, Stronger, both_are, zip_length}
use Rattle.dp_infer.proofs.Changes.{AreWellFormed, facts_fit, least_is}

-- what both say follows from either, and entails all that follows from both
record HaveLeast {A : Type 0} (R : A → A → Type 0) (x y j u : A) : Type 0 where
  pub left : R x j
  pub right : R y j
  pub least : R j u

-- ---- the strongest share that both entail

joined_left : (a b : ℕ) → entails_share a (joined_share a b) ≡ true
joined_left a b = by_cases ((a == b) && is_share a)
    (λ e. rw e (share_same a))
    (λ e. rw e (by_cases (owns_head a && owns_head b)
    (λ o. rw o (one_of a (and_parts (owns_head a) (owns_head b) o).0))
    (λ o. rw o (share_zero a 0 refl))))

joined_swapped : (a b : ℕ) → joined_share a b ≡ joined_share b a
joined_swapped a b = ⊎_elim
    (λ e. rw e refl)
    (λ ne. rw (ne_eqb a b ne, ne_eqb b a (λ e. ne (sym e)), and_comm (owns_head a) (owns_head b)) refl)
    (cases_eq a b)

joined_right : (a b : ℕ) → entails_share b (joined_share a b) ≡ true
joined_right a b = rw (joined_swapped a b) (joined_left b a)

-- whether a group of the first row has the same registers in the second
abbrev IsCommon : List Fact → List Fact → ℕ → Bool
IsCommon fs gs x = is_group fs x && same_registers fs gs x

-- its share, loose where the group is not common
abbrev kept : List Fact → List Fact → ℕ → ℕ
kept fs gs n = cond (nat_le 8 n) (cond (IsCommon fs gs (n - 8)) n 0) n

common_is : (fs gs : List Fact) (share head tail first last segs : ℕ) → common_fact fs gs (Held share head tail first last segs)
    ≡ Held (kept fs gs share) head tail first last segs
common_is fs gs share head tail first last segs = by_cases (nat_le 8 share)
    (λ above. by_cases (IsCommon fs gs (share - 8))
    (λ e. rw (above, e) refl)
    (λ e.
    let same : (share == share_of_group (share - 8)) ≡ true = eq-eqb share (8 + (share - 8)) (omega (arith, leb-true 8 share above)) in
    rw (above, e, same) refl))
    (λ below. rw below refl)

kept_less : (fs gs : List Fact) (a n : ℕ) → entails_share a n ≡ true → entails_share a (kept fs gs n) ≡ true
kept_less fs gs a n e = by_cases (nat_le 8 n)
    (λ above. rw above (by_cases (IsCommon fs gs (n - 8)) (λ c. rw c e) (λ c. rw c (share_zero a 0 refl))))
    (λ below. rw below e)

kept_common : (fs gs : List Fact) (n : ℕ) → ((x : ℕ) → n ≡ share_of_group x → IsCommon fs gs x ≡ true) → kept fs gs n ≡ n
kept_common fs gs n each = by_cases (nat_le 8 n)
    (λ above. rw (above, each (n - 8) (omega (arith, leb-true 8 n above))) refl)
    (λ below. rw below refl)

kept_least : (fs gs : List Fact) (a b u : ℕ) → entails_share a u ≡ true → entails_share b u ≡ true → is_share u ≡ true →
    ((x : ℕ) → u ≡ share_of_group x → IsCommon fs gs x ≡ true) → entails_share (kept fs gs (joined_share a b)) u ≡ true
kept_least fs gs a b u h k fits each =
    elim (share_cases a u h) [
      | inl z ↦ share_zero (kept fs gs (joined_share a b)) u z
      | inr (inl ea) ↦ elim (share_cases b u k) [
        | inl z ↦ share_zero (kept fs gs (joined_share a b)) u z
        | inr (inl eb) ↦
            let same : joined_share u u ≡ u = rw (eq-eqb u u refl, fits) refl in
            let is : joined_share a b ≡ u = rw (ea, eb) same in
            share_is (kept fs gs (joined_share a b)) u (ap (kept fs gs) is ∙ kept_common fs gs u each)
        | inr (inr (two, one)) ↦ rw (ea ∙ one, one, two) refl
      ]
      | inr (inr (two, one)) ↦ elim (share_cases b u k) [
        | inl z ↦ absurd (omega (arith, z, one))
        | inr (inl eb) ↦ rw (two, eb ∙ one, one) refl
        | inr (inr (other, _)) ↦ rw (two, other, one) refl
      ]
    ]

-- ---- facts

-- the groups of a fact are in both rows
abbrev AreCommon : List Fact → List Fact → Fact → Type 0
AreCommon fs gs u = (x : ℕ) → is_in x u ≡ true → IsCommon fs gs x ≡ true

fact_join : (fs gs : List Fact) (f g u : Fact) → StrongerFact f u → StrongerFact g u → is_fact_of_row u ≡ true → AreCommon fs gs u →
    HaveLeast StrongerFact f g (common_fact fs gs (joined_fact f g)) u
fact_join fs gs Empty Empty Empty h k fits common = record { left = tt; right = tt; least = tt }
fact_join fs gs (Held share head tail first last segs) (Held s h t f l n) (Held s' h' t' f' l' n') p q fits common =
    let (a, most) = and_parts (is_share s' && nat_le 1 n') (nat_le n' 64) fits in
    let (b, some) = and_parts (is_share s') (nat_le 1 n') a in
    let segs_some = leb-true 1 n' some in
    let segs_most = leb-true n' 64 most in
    rw (common_is fs gs (joined_share share s) (min head h) (min tail t) (min first f) (min last l) (min 64 (max 1 (max segs n))))
    (let left = kept_less fs gs share (joined_share share s) (joined_left share s) in
    let right = kept_less fs gs s (joined_share share s) (joined_right share s) in
    let least = kept_least fs gs share s s' p.share q.share b (λ x e. common x (eq-eqb s' (8 + x) e)) in
    record {
      left = record { share = left; head = omega arith; tail = omega arith; first = omega arith; last = omega arith; segs = omega arith };
      right = record { share = right; head = omega arith; tail = omega arith; first = omega arith; last = omega arith; segs = omega arith };
      least = record { share = least; head = omega arith; tail = omega arith; first = omega arith; last = omega arith; segs = omega arith };
    })
fact_join fs gs Empty g (Held s h t f l n) p q fits common = absurd p
fact_join fs gs (Held share head tail first last segs) g Empty p q fits common = absurd p
fact_join fs gs x y z p q fits common = absurd q

each_join : (fs gs xs ys us : List Fact) → AllZip StrongerFact xs us → AllZip StrongerFact ys us → list_all is_fact_of_row us ≡ true →
    AllByRecursion (AreCommon fs gs) us
    → HaveLeast (AllZip StrongerFact) xs ys (map (common_fact fs gs) (paired joined_fact xs ys)) us
each_join fs gs [] [] [] p q fits common = record { left = tt; right = tt; least = tt }
each_join fs gs (f ∷ xs) (g ∷ ys) (u ∷ us) p q fits common =
    let (here, rest) = and_parts (is_fact_of_row u) (list_all is_fact_of_row us) fits in
    let one = fact_join fs gs f g u p.0 q.0 here common.0 in
    let others = each_join fs gs xs ys us p.1 q.1 rest common.1 in
    record { left = (one.left, others.left); right = (one.right, others.right); least = (one.least, others.least) }
each_join fs gs [] (g ∷ ys) [] p q fits common = absurd q
each_join fs gs (f ∷ xs) [] (u ∷ us) p q fits common = absurd q
each_join fs gs x ys y p q fits common = absurd p

-- the groups of a row that both entail are in both
common_at : (fs gs us : List Fact) → length fs ≡ length us → length gs ≡ length us → KeepsGroups fs us → KeepsGroups gs us → are_groups us ≡ true →
    (i x : ℕ) → belongs us x i ≡ true → IsCommon fs gs x ≡ true
common_at fs gs us lf lg kf kg groups i x inside =
    let (u, at, is) = belongs_there us x i inside in
    let here = all_at (λ fact. option_map_or (is_group us) (group_of fact) true) us i u groups at in
    let group : is_group us x ≡ true = sym (ap (λ o. option_map_or (is_group us) o true) (is_in_group x u is)) ∙ here in
    let sf : (j : ℕ) → belongs fs x j ≡ belongs us x j = kf i x inside in
    let sg : (j : ℕ) → belongs gs x j ≡ belongs us x j = kg i x inside in
    let size_is : group_size fs x ≡ group_size us x = size_same fs us x x lf sf in
    let first : is_group fs x ≡ true = rw (size_is, least_is fs us x lf sf) group in
    both_are first (same_from fs gs x (lf ∙ sym lg) (λ j. sf j ∙ sym (sg j)))

all_common : (fs gs us : List Fact) → ((i x : ℕ) → belongs us x i ≡ true → IsCommon fs gs x ≡ true) → AllByRecursion (AreCommon fs gs) us
all_common fs gs [] each = tt
all_common fs gs (u ∷ us) each = (each 0, all_common fs gs us (λ i. each (suc i)))

-- the facts that both rows say
facts_join : (fs gs us : List Fact) → AllZip StrongerFact fs us → AllZip StrongerFact gs us → KeepsGroups fs us → KeepsGroups gs us →
    list_all is_fact_of_row us ≡ true → are_groups us ≡ true
    → HaveLeast (AllZip StrongerFact) fs gs (joined_facts fs gs) us
facts_join fs gs us p q kp kq fits groups =
    each_join fs gs fs gs us p q fits (all_common fs gs us (common_at fs gs us (zip_length StrongerFact fs us p) (zip_length StrongerFact gs us q) kp kq
    groups))

-- ---- groups

-- a register belongs to a group of what both say exactly where it does in both, and the group is common
share_in : (fs gs : List Fact) (x a b : ℕ) → kept fs gs (joined_share a b) ≡ share_of_group x → (IsCommon fs gs x ≡ true) × ((a == share_of_group x) ≡ true)
    × ((b == share_of_group x) ≡ true) × (is_share (share_of_group x) ≡ true)
share_in fs gs x a b e = by_cases (nat_le 8 (joined_share a b))
    (λ above. by_cases (IsCommon fs gs (joined_share a b - 8))
    (λ c.
    let is : kept fs gs (joined_share a b) ≡ joined_share a b = rw (above, c) refl in
    let name : joined_share a b ≡ 8 + x = sym is ∙ e in
    let number : joined_share a b - 8 ≡ x = omega (arith, name) in
    let common : IsCommon fs gs x ≡ true = rw number at c in
    by_cases ((a == b) && is_share a)
    (λ t.
    let (same, fits) = and_parts (a == b) (is_share a) t in
    let first : a ≡ 8 + x = rw t at name in
    let second : b ≡ 8 + x = sym (eqb-true a b same) ∙ first in
    (common, eq-eqb a (8 + x) first, eq-eqb b (8 + x) second, rw first at fits))
    (λ t.
    let low : cond (owns_head a && owns_head b) 1 0 ≡ 8 + x = rw t at name in
    absurd (omega (arith, low, small (owns_head a && owns_head b)))))
    (λ c. let zero_is : kept fs gs (joined_share a b) ≡ 0 = rw (above, c) refl in absurd (omega (arith, zero_is, e))))
    (λ below.
    let is : kept fs gs (joined_share a b) ≡ joined_share a b = rw below refl in
    absurd (omega (arith, is, e, leb-false 8 (joined_share a b) below)))
  where
    small : (t : Bool) → cond t 1 0 ≤ 1
    small true = omega arith
    small false = omega arith

elem_in : (fs gs : List Fact) (x : ℕ) (f g : Fact) → is_in x (common_fact fs gs (joined_fact f g)) ≡ true →
    (IsCommon fs gs x ≡ true) × (is_in x f ≡ true) × (is_in x g ≡ true) × (is_share (share_of_group x) ≡ true)
elem_in fs gs x (Held share head tail first last segs) (Held s h t f l n) e =
    let is = rw (common_is fs gs (joined_share share s) (min head h) (min tail t) (min first f) (min last l) (min 64 (max 1 (max segs n)))) at e in
    share_in fs gs x share s (eqb-true (kept fs gs (joined_share share s)) (8 + x) is)
elem_in fs gs x y g e = cc

elem_from : (fs gs : List Fact) (x : ℕ) (f g : Fact) → IsCommon fs gs x ≡ true → is_share (share_of_group x) ≡ true → is_in x f ≡ true → is_in x g ≡ true →
    is_in x (common_fact fs gs (joined_fact f g)) ≡ true
elem_from fs gs x (Held share head tail first last segs) (Held s h t f l n) c fits e e' =
    let a = eqb-true share (8 + x) e in
    let b = eqb-true s (8 + x) e' in
    let is : joined_share share s ≡ 8 + x = rw (a, b, eq-eqb (8 + x) (8 + x) refl, fits) refl in
    let left : kept fs gs (joined_share share s) ≡ 8 + x = ap (kept fs gs) is
    ∙ kept_common fs gs (8 + x) (λ y same. let number : x ≡ y = omega (arith, same) in rw number at c) in
    rw (common_is fs gs (joined_share share s) (min head h) (min tail t) (min first f) (min last l) (min 64 (max 1 (max segs n))))
    (eq-eqb (kept fs gs (joined_share share s)) (8 + x) left)
elem_from fs gs x y g c fits e e' = cc

all_in : (fs gs xs ys : List Fact) (x i : ℕ) → belongs (map (common_fact fs gs) (paired joined_fact xs ys)) x i ≡ true →
    (IsCommon fs gs x ≡ true) × (belongs xs x i ≡ true) × (belongs ys x i ≡ true) × (is_share (share_of_group x) ≡ true)
all_in fs gs (f ∷ xs) (g ∷ ys) x zero e = elem_in fs gs x f g e
all_in fs gs (f ∷ xs) (g ∷ ys) x (suc i) e = all_in fs gs xs ys x i e
all_in fs gs y ys x i e = cc

all_out : (fs gs xs ys : List Fact) (x i : ℕ) → IsCommon fs gs x ≡ true → is_share (share_of_group x) ≡ true → belongs xs x i ≡ true → belongs ys x i ≡ true →
    belongs (map (common_fact fs gs) (paired joined_fact xs ys)) x i ≡ true
all_out fs gs (f ∷ xs) (g ∷ ys) x zero c fits e e' = elem_from fs gs x f g c fits e e'
all_out fs gs (f ∷ xs) (g ∷ ys) x (suc i) c fits e e' = all_out fs gs xs ys x i c fits e e'
all_out fs gs y ys x i c fits e e' = cc

-- a common group has the same registers there
same_there : (fs gs : List Fact) (x : ℕ) → IsCommon fs gs x ≡ true → is_share (share_of_group x) ≡ true →
    (j : ℕ) → belongs (joined_facts fs gs) x j ≡ belongs fs x j
same_there fs gs x c fits j =
    let (long, each) = same_at fs gs x (and_parts (is_group fs x) (same_registers fs gs x) c).1 in
    by_cases (belongs fs x j)
    (λ here. all_out fs gs fs gs x j c fits here (each j ∙ here) ∙ sym here)
    (λ away. by_cases (belongs (joined_facts fs gs) x j)
    (λ inside. let wrong : true ≡ false = sym (all_in fs gs fs gs x j inside).1 ∙ away in cc)
    (λ out. out ∙ sym away))

-- the share of a group's register
group_share : (us : List Fact) (i x : ℕ) → list_all is_fact_of_row us ≡ true → belongs us x i ≡ true → is_share (share_of_group x) ≡ true
group_share us i x fits inside =
    let (u, at, is) = belongs_there us x i inside in
    go u (all_at is_fact_of_row us i u fits at) is
  where
    go : (u : Fact) → is_fact_of_row u ≡ true → is_in x u ≡ true → is_share (share_of_group x) ≡ true
    go Empty fits is = cc
    go (Held share head tail first last segs) fits is =
        let b = and_parts (is_share share) (nat_le 1 segs) (and_parts (is_share share && nat_le 1 segs) (nat_le segs 64) fits).0 in
        subst (λ n. is_share n ≡ true) (eqb-true share (8 + x) is) b.0

-- and their groups
groups_join : (fs gs us : List Fact) → AllZip StrongerFact fs us → AllZip StrongerFact gs us → KeepsGroups fs us → KeepsGroups gs us →
    list_all is_fact_of_row us ≡ true → are_groups us ≡ true
    → HaveLeast KeepsGroups fs gs (joined_facts fs gs) us
groups_join fs gs us p q kp kq fits groups = record {
  left = λ i x inside j. let (c, f, g, s) = all_in fs gs fs gs x i inside in sym (same_there fs gs x c s j);
  right = λ i x inside j.
      let (c, f, g, s) = all_in fs gs fs gs x i inside in
      let (long, each) = same_at fs gs x (and_parts (is_group fs x) (same_registers fs gs x) c).1 in
      each j ∙ sym (same_there fs gs x c s j);
  least = λ i x inside j.
      let c = common_at fs gs us (zip_length StrongerFact fs us p) (zip_length StrongerFact gs us q) kp kq groups i x inside in
      same_there fs gs x c (group_share us i x fits inside) j ∙ kp i x inside j;
}

-- ---- ranges of facts

joined_is_share : (a b : ℕ) → is_share (joined_share a b) ≡ true
joined_is_share a b = by_cases ((a == b) && is_share a)
    (λ t. rw t (and_parts (a == b) (is_share a) t).1)
    (λ t. rw t (low (owns_head a && owns_head b)))
  where
    low : (t : Bool) → is_share (cond t 1 0) ≡ true
    low true = refl
    low false = refl

kept_is_share : (fs gs : List Fact) (n : ℕ) → is_share n ≡ true → is_share (kept fs gs n) ≡ true
kept_is_share fs gs n e = by_cases (nat_le 8 n)
    (λ above. rw above (by_cases (IsCommon fs gs (n - 8)) (λ c. rw c e) (λ c. rw c refl)))
    (λ below. rw below e)

elem_fits : (fs gs : List Fact) (f g : Fact) → is_fact_of_row (common_fact fs gs (joined_fact f g)) ≡ true
elem_fits fs gs Empty g = refl
elem_fits fs gs (Held share head tail first last segs) Empty = refl
elem_fits fs gs (Held share head tail first last segs) (Held s h t f l n) =
    rw (common_is fs gs (joined_share share s) (min head h) (min tail t) (min first f) (min last l) (min 64 (max 1 (max segs n))))
    (both_are (both_are (kept_is_share fs gs (joined_share share s) (joined_is_share share s)) (le-leb 1 (min 64 (max 1 (max segs n))) (omega arith)))
    (le-leb (min 64 (max 1 (max segs n))) 64 (omega arith)))

all_fit : (fs gs xs ys : List Fact) → list_all is_fact_of_row (map (common_fact fs gs) (paired joined_fact xs ys)) ≡ true
all_fit fs gs [] ys = refl
all_fit fs gs (f ∷ xs) [] = refl
all_fit fs gs (f ∷ xs) (g ∷ ys) = both_are (elem_fits fs gs f g) (all_fit fs gs xs ys)

length_joined : (fs gs xs ys : List Fact) → length ys ≡ length xs → length (map (common_fact fs gs) (paired joined_fact xs ys)) ≡ length xs
length_joined fs gs [] ys e = refl
length_joined fs gs (f ∷ xs) [] e = absurd (omega arith)
length_joined fs gs (f ∷ xs) (g ∷ ys) e = ap suc (length_joined fs gs xs ys (omega arith))

joined_groups : (fs gs : List Fact) → are_groups (joined_facts fs gs) ≡ true
joined_groups fs gs = all_from_each (λ fact. option_map_or (is_group (joined_facts fs gs)) (group_of fact) true) (joined_facts fs gs)
    (λ i y at. go i y at (group_of y) refl)
  where
    go : (i : ℕ) (y : Fact) → slice_get (joined_facts fs gs) i ≡ Some y → (o : Option ℕ) → group_of y ≡ o →
        option_map_or (is_group (joined_facts fs gs)) (group_of y) true ≡ true
    go i y at None e = rw e refl
    go i y at (Some x) e =
        let (c, f, g, s) = all_in fs gs fs gs x i (belongs_at (joined_facts fs gs) x i y at ∙ group_is x y e) in
        let (first, same) = and_parts (is_group fs x) (same_registers fs gs x) c in
        let long : length (joined_facts fs gs) ≡ length fs = length_joined fs gs fs gs (same_at fs gs x same).0 in
        let size_is : group_size (joined_facts fs gs) x ≡ group_size fs x = size_same (joined_facts fs gs) fs x x long (same_there fs gs x c s) in
        let group : is_group (joined_facts fs gs) x ≡ true = rw (size_is, least_is (joined_facts fs gs) fs x long (same_there fs gs x c s)) first in
        rw e group

bounds_join : (ms ns us : List ℕ) → AllZip AtMost ms us → AllZip AtMost ns us → HaveLeast (AllZip AtMost) ms ns (paired max ms ns) us
bounds_join [] [] [] p q = record { left = tt; right = tt; least = tt }
bounds_join (m ∷ ms) (n ∷ ns) (u ∷ us) p q =
    let others = bounds_join ms ns us p.1 q.1 in
    record { left = (omega arith, others.left); right = (omega arith, others.right); least = (omega (arith, p.0, q.0), others.least) }
bounds_join [] (n ∷ ns) [] p q = absurd q
bounds_join (m ∷ ms) [] (u ∷ us) p q = absurd q
bounds_join x ns y p q = absurd p

-- two rows that both entail a third have a strongest row in common
pub record LeastRow (a b u : Row) : Type 0 where
  pub left : Stronger a (joined a b)
  pub right : Stronger b (joined a b)
  pub least : Stronger (joined a b) u

pub rows_join : (a b u : Row) → Stronger a u → Stronger b u → AreWellFormed u → LeastRow a b u
rows_join a b u p q fits =
    let facts = facts_join a.facts b.facts u.facts p.facts q.facts p.groups q.groups (facts_fit u fits) (groups_of_row u fits) in
    let groups = groups_join a.facts b.facts u.facts p.facts q.facts p.groups q.groups (facts_fit u fits) (groups_of_row u fits) in
    let bounds = bounds_join a.bounds b.bounds u.bounds p.bounds q.bounds in
    record {
      left = record { live = p.live; other_live = refl; facts = facts.left; groups = groups.left; bounds = bounds.left };
      right = record { live = q.live; other_live = refl; facts = facts.right; groups = groups.right; bounds = bounds.right };
      least = record { live = refl; other_live = p.other_live; facts = facts.least; groups = groups.least; bounds = bounds.least };
    }

-- ---- ranges of facts

pub joined_well_formed : (a b : Row) → is_well_formed_row (joined a b) ≡ true
joined_well_formed a b = both_are (both_are (all_fit a.facts b.facts a.facts b.facts) (joined_groups a.facts b.facts)) refl

pub met_well_formed : (there row : Row) → is_well_formed_row (met there row) ≡ true
met_well_formed there row = go there.live refl
  where
    go : (b : Bool) → there.live ≡ b → is_well_formed_row (met there row) ≡ true
    go true e = rw e (joined_well_formed there row)
    go false e = rw e (joined_well_formed row row)

-- ---- what is known about two packets

pub left_empty : (fact other : Fact) → holding fact ≡ None → Empty ≡ joined_fact fact other
left_empty Empty other e = refl
left_empty (Held a b c d x y) other e = cc

pub right_empty : (fact other : Fact) → holding other ≡ None → Empty ≡ joined_fact fact other
right_empty Empty Empty e = refl
right_empty (Held a b c d x y) Empty e = refl
right_empty fact (Held a b c d x y) e = cc

fact_held : (fact : Fact) (h : Holding) → holding fact ≡ Some h → held h ≡ fact
fact_held Empty h e = cc
fact_held (Held a b c d x y) h e = ap (λ o. option_map_or held o Empty) (sym e)

pub both_held : (fact other : Fact) (h k r : Holding) → holding fact ≡ Some h → holding other ≡ Some k → held r ≡ joined_fact (held h) (held k) →
    held r ≡ joined_fact fact other
both_held fact other h k r e f is = is ∙ (ap (λ x. joined_fact x (held k)) (fact_held fact h e) ∙ ap (λ x. joined_fact fact x) (fact_held other k f))

-- Groups that one row keeps of another.
use Rattle.std.proofs.Common.{◌≡◌, ◌≢◌, ◌⊎◌, ℕ, zero, suc, Bool, true, false, ◌&&◌, ◌||◌, List, [], ◌∷◌, length, Option, Some, None, refl, sym, ap, ◌∙◌}
use Rattle.std.proofs.Common.{subst, arith, inl, inr, ⊎_elim}
use Rattle.std.specs.Prelude.{slice_get, slice_set, ◌==◌}
use Rattle.std.specs.List.{list_all}
use Rattle.std.specs.Option.{option_map_or}
use Rattle.std.specs.Cmp.{booleans_Decides}
use Rattle.std.proofs.lemmas.Bool.{cases_eq, eq-eqb, eqb-true, or_cases, and_parts}
use Rattle.dp_model.specs.declared.row.Fact.{Fact}
use Rattle.dp_model.specs.declared.row.Row.{Row}
use Rattle.dp_model.specs.Groups.{group_of, is_in, belongs, same_registers, keeps_groups}
use Rattle.dp_model.specs.Rows.{entails_share, owns_head, chained_share, group_at, with_shares, dissolved}
use Rattle.dp_model.specs.Laws.Groups.{same_at, kept_at, belongs_at, belongs_there, belongs_other, belongs_in, belongs_out, group_is, in_one, loose_no_group}
use Rattle.dp_model.specs.Laws.Groups.{group_at_is, group_at_belongs}
use Rattle.dp_model.specs.Laws.Cases.{by_cases}

-- each group of the second row is a group of the same registers in the first
abbrev pub KeepsGroups : List Fact → List Fact → Type 0
KeepsGroups fs gs = (i x : ℕ) → belongs gs x i ≡ true → (j : ℕ) → belongs fs x j ≡ belongs gs x j

-- ---- from the test and back

pub keeps_from : (fs gs : List Fact) → keeps_groups fs gs ≡ true → KeepsGroups fs gs
keeps_from fs gs e i x inside j =
    let (f, at, is) = belongs_there gs x i inside in
    let (long, same) = same_at fs gs x (kept_at fs gs i x f e at is) in
    sym (same j)

pub same_from : (fs gs : List Fact) (x : ℕ) → length fs ≡ length gs → ((j : ℕ) → belongs fs x j ≡ belongs gs x j) → same_registers fs gs x ≡ true
same_from [] [] x long same = refl
same_from (f ∷ fs) (g ∷ gs) x long same =
    rw ((booleans_Decides (is_in x f) (is_in x g)).1 (same 0), same_from fs gs x (omega arith) (λ j. same (suc j))) refl
same_from y z x long same = absurd (omega arith)

pub all_from_each : {A : Type 0} (test : A → Bool) (xs : List A) → ((i : ℕ) (y : A) → slice_get xs i ≡ Some y → test y ≡ true) → list_all test xs ≡ true
all_from_each test [] each = refl
all_from_each test (x ∷ xs) each = rw (each 0 x refl, all_from_each test xs (λ i. each (suc i))) refl

pub keeps_test : (fs gs : List Fact) → length fs ≡ length gs → KeepsGroups fs gs → keeps_groups fs gs ≡ true
keeps_test fs gs long keeps = all_from_each (λ other. option_map_or (same_registers fs gs) (group_of other) true) gs (λ i y at. go i y at (group_of y) refl)
  where
    go : (i : ℕ) (y : Fact) → slice_get gs i ≡ Some y → (o : Option ℕ) → group_of y ≡ o → option_map_or (same_registers fs gs) (group_of y) true ≡ true
    go i y at None e = rw e refl
    go i y at (Some x) e = rw e (same_from fs gs x long (keeps i x (belongs_at gs x i y at ∙ group_is x y e)))

-- ---- reflexive and transitive

pub keeps_further : (fs gs hs : List Fact) → KeepsGroups fs gs → KeepsGroups gs hs → KeepsGroups fs hs
keeps_further fs gs hs one two i x inside j =
    let here = two i x inside in
    one i x (here i ∙ inside) j ∙ here j

-- rows in which the same registers belong to the same groups
pub keeps_moved : (fs fs' gs gs' : List Fact) → ((x i : ℕ) → belongs fs' x i ≡ belongs fs x i) → ((x i : ℕ) → belongs gs' x i ≡ belongs gs x i) →
    KeepsGroups fs gs → KeepsGroups fs' gs'
keeps_moved fs fs' gs gs' first second keeps i x inside j = cc (first x j, second x j, keeps i x (sym (second x i) ∙ inside) j)

-- ---- the order of shares

pub share_same : (n : ℕ) → entails_share n n ≡ true
share_same n = by_cases (n == 0) (λ z. rw z refl) (λ z. rw (z, eq-eqb n n refl) refl)

pub share_cases : (a b : ℕ) → entails_share a b ≡ true → (b ≡ 0) ⊎ ((a ≡ b) ⊎ ((a ≡ 2) × (b ≡ 1)))
share_cases a b e = ⊎_elim
    (λ first. ⊎_elim (λ z. inl (eqb-true b 0 z)) (λ same. inr (inl (eqb-true a b same))) (or_cases (b == 0) (a == b) first))
    (λ two. let (x, y) = and_parts (a == 2) (b == 1) two in inr (inr (eqb-true a 2 x, eqb-true b 1 y)))
    (or_cases ((b == 0) || (a == b)) ((a == 2) && (b == 1)) e)

pub share_zero : (a b : ℕ) → b ≡ 0 → entails_share a b ≡ true
share_zero a b z = rw (eq-eqb b 0 z) refl

pub share_is : (a b : ℕ) → a ≡ b → entails_share a b ≡ true
share_is a b e = rw e (share_same b)

pub share_two : (a b : ℕ) → a ≡ 2 → b ≡ 1 → entails_share a b ≡ true
share_two a b two one = rw (two, one) refl

-- any share with a sole first buffer entails 1
pub one_of : (a : ℕ) → owns_head a ≡ true → entails_share a 1 ≡ true
one_of a e = ⊎_elim (λ one. share_is a 1 (eqb-true a 1 one)) (λ two. share_two a 1 (eqb-true a 2 two) refl) (or_cases (a == 1) (a == 2) e)

pub and_comm : (a b : Bool) → (a && b) ≡ (b && a)
and_comm true true = refl
and_comm true false = refl
and_comm false true = refl
and_comm false false = refl

pub share_further : (a b c : ℕ) → entails_share a b ≡ true → entails_share b c ≡ true → entails_share a c ≡ true
share_further a b c h k = ⊎_elim (share_zero a c) (⊎_elim (λ same. subst (λ n. entails_share a n ≡ true) same h) (λ (two, one). ⊎_elim
    (λ z. absurd (omega (arith, z, two)))
    (⊎_elim (λ same. share_two a c (same ∙ two) one) (λ (x, y). absurd (omega (arith, y, two))))
    (share_cases a b h))) (share_cases b c k)

-- a share that owns the first buffer, or all, follows only from such shares
pub sole_more : (a b : ℕ) → entails_share a b ≡ true → b ≡ 2 → a ≡ 2
sole_more a b e two = ⊎_elim (λ z. absurd (omega (arith, z, two))) (⊎_elim (λ same. same ∙ two) (λ (x, y). x)) (share_cases a b e)

pub owns_more : (a b : ℕ) → entails_share a b ≡ true → owns_head b ≡ true → owns_head a ≡ true
owns_more a b e owns = ⊎_elim
    (λ one. ⊎_elim (λ z. absurd (omega (arith, z, eqb-true b 1 one))) (⊎_elim (λ same. rw same owns) (λ (x, y). rw x refl)) (share_cases a b e))
    (λ two. rw (sole_more a b e (eqb-true b 2 two)) refl)
    (or_cases (b == 1) (b == 2) owns)

-- the same for two chained packets
pub share_chained : (a b a' b' : ℕ) → entails_share a a' ≡ true → entails_share b b' ≡ true → entails_share (chained_share a b) (chained_share a' b') ≡ true
share_chained a b a' b' h k = by_cases ((a' == 2) && (b' == 2)) both (λ less. by_cases (owns_head a') (first less) (none less))
  where
    sole : a ≡ 2 → b ≡ 2 → chained_share a b ≡ 2
    sole x y = rw (x, y) refl

    both : ((a' == 2) && (b' == 2)) ≡ true → entails_share (chained_share a b) (chained_share a' b') ≡ true
    both e =
        let (x, y) = and_parts (a' == 2) (b' == 2) e in
        let is : chained_share a' b' ≡ 2 = rw e refl in
        share_is (chained_share a b) (chained_share a' b') (sole (sole_more a a' h (eqb-true a' 2 x)) (sole_more b b' k (eqb-true b' 2 y)) ∙ sym is)

    first : ((a' == 2) && (b' == 2)) ≡ false → owns_head a' ≡ true → entails_share (chained_share a b) (chained_share a' b') ≡ true
    first less e =
        let is : chained_share a' b' ≡ 1 = rw (less, e) refl in
        by_cases ((a == 2) && (b == 2))
        (λ all. let two : chained_share a b ≡ 2 = rw all refl in share_two (chained_share a b) (chained_share a' b') two is)
        (λ some. let one : chained_share a b ≡ 1 = rw (some, owns_more a a' h e) refl in share_is (chained_share a b) (chained_share a' b') (one ∙ sym is))

    none : ((a' == 2) && (b' == 2)) ≡ false → owns_head a' ≡ false → entails_share (chained_share a b) (chained_share a' b') ≡ true
    none less e = share_zero (chained_share a b) (chained_share a' b') (rw (less, e) refl)

-- ---- a register that belongs to no group afterwards

pub set_out : (fs : List Fact) (p x : ℕ) (f : Fact) → is_in x f ≡ false → belongs (slice_set fs p f) x p ≡ false
set_out [] p x f out = refl
set_out (g ∷ fs) zero x f out = out
set_out (g ∷ fs) (suc p) x f out = set_out fs p x f out

pub keeps_out : (fs gs : List Fact) (p : ℕ) (f g : Fact) → ((x : ℕ) → is_in x f ≡ false) → ((x : ℕ) → is_in x g ≡ false) → KeepsGroups fs gs →
    KeepsGroups (slice_set fs p f) (slice_set gs p g)
keeps_out fs gs p f g first second keeps i x inside j = ⊎_elim
    (λ is. cc (set_out fs p x f (first x), set_out gs p x g (second x)))
    (λ ne. cc (belongs_other fs x p j f ne, keeps i x before j, belongs_other gs x p j g ne))
    (cases_eq j p)
  where
    before : belongs gs x i ≡ true
    before = ⊎_elim
        (λ is. cc (set_out gs p x g (second x)))
        (λ ne. sym (belongs_other gs x p i g ne) ∙ inside)
        (cases_eq i p)

-- ---- a group is dissolved

-- p's group is gone, and the others stay
dissolved_gone : (row : Row) (p x i : ℕ) → belongs row.facts x p ≡ true → belongs (dissolved row p).facts x i ≡ false
dissolved_gone row p x i inside =
    ap (λ o. belongs (option_map_or (λ g. with_shares row g 0) o row).facts x i) (group_at_is row p x inside)
    ∙ by_cases (belongs row.facts x i) (λ here. belongs_in row.facts x x 0 i here ∙ loose_no_group x) (λ away. belongs_out row.facts x x 0 i away ∙ away)

dissolved_other : (row : Row) (p x i : ℕ) → belongs row.facts x p ≡ false → belongs (dissolved row p).facts x i ≡ belongs row.facts x i
dissolved_other row p x i outside = go (group_at row p) refl
  where
    go : (o : Option ℕ) → group_at row p ≡ o → belongs (dissolved row p).facts x i ≡ belongs row.facts x i
    go None e = rw e refl
    go (Some g) e =
        let ne : x ≢ g = λ same. cc (group_at_belongs row p g e) in
        rw e (by_cases (belongs row.facts g i)
        (λ here. cc (belongs_in row.facts x g 0 i here, loose_no_group x, in_one row.facts g x i ne here))
        (λ away. belongs_out row.facts x g 0 i away))

pub keeps_dissolved : (a b : Row) (p : ℕ) → KeepsGroups a.facts b.facts → KeepsGroups (dissolved a p).facts (dissolved b p).facts
keeps_dissolved a b p keeps i x inside j = by_cases (belongs b.facts x p)
    (λ here. cc (dissolved_gone b p x i here))
    (λ away.
    let before : belongs b.facts x i ≡ true = sym (dissolved_other b p x i away) ∙ inside in
    let out : belongs a.facts x p ≡ false = keeps i x before p ∙ away in
    cc (dissolved_other a p x j out, keeps i x before j, dissolved_other b p x j away))

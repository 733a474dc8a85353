-- Internal: groups of registers: who belongs to which, and what edits of a row keep.
use Rattle.std.proofs.Common.{◌≡◌, ◌≢◌, ℕ, zero, suc, ◌+◌, Bool, true, false, List, [], ◌∷◌, length, Option, Some, None, refl, ◌∙◌, ap, subst, arith, ◌⊎◌}
use Rattle.std.proofs.Common.{◌-◌, ◌≤◌, cond, sym, inl, inr, ⊎_elim, ◌&&◌, get_or}
use Rattle.std.specs.Prelude.{slice_get, slice_set, option_and_then, nat_le, ◌==◌, ◌≢◌}
use Rattle.std.specs.Option.{option_map_or}
use Rattle.std.proofs.lemmas.Option.{same_Some}
use Rattle.std.proofs.lemmas.List.Sums.{sum_by-cons}
use Rattle.std.proofs.lemmas.Bool.{leb-true, le-leb, eqb-true, eq-eqb, ne_eqb, cases_eq, and_parts}
use Rattle.std.specs.List.{list_all}
use Rattle.std.specs.Cmp.{booleans_Decides}
use Rattle.std.proofs.Math.Bool.{beq}
use Rattle.std.proofs.lemmas.List.Quantifiers.{position-Some}
use Rattle.dp_model.specs.declared.row.Fact.{Fact}
use Rattle.dp_model.specs.declared.row.Fact.TheVariants.{Empty, Held}
use Rattle.dp_model.specs.declared.row.Row.{Row}
use Rattle.dp_model.specs.declared.row.Holding.{Holding}
use Rattle.dp_model.specs.Rows.{holding, group_at, with_shares, dissolved, is_well_formed_row, is_fact_of_row, held, held_at, with_fact, changed}
use Rattle.dp_model.specs.Rows.{emptied, shared, chained_share, owns_head}
use Rattle.dp_model.specs.Facts.{loose, head_sole, sole, first_group}
use Rattle.dp_model.specs.Groups.{group_of, is_in, group_size, share_of_group, belongs, reshared_fact}
use Rattle.dp_model.specs.Groups.{reshared, same_registers, least_member, is_group, are_groups}
use Rattle.dp_model.specs.Laws.Lists.{get_set_other, get_set_same, all_at}
use Rattle.dp_model.specs.Laws.Cases.{one_if, by_cases}

-- a test of an optional value can be true only if there is one
pub map_or_true : {X : Type 0} (test : X → Bool) (o : Option X) → option_map_or test o false ≡ true → (x : X) × (o ≡ Some x) × (test x ≡ true)
map_or_true test None h = cc
map_or_true test (Some x) h = (x, refl, h)

-- one more register
pub size-cons : (f : Fact) (facts : List Fact) (g : ℕ) → group_size (f ∷ facts) g ≡ one_if (is_in g f) + group_size facts g
size-cons f facts g = sum_by-cons (λ x. cond (is_in g x) 1 0) f facts

-- equal sizes if the same registers belong
pub size_same : (xs ys : List Fact) (g h : ℕ) → length xs ≡ length ys → ((i : ℕ) → belongs xs g i ≡ belongs ys h i) → group_size xs g ≡ group_size ys h
size_same [] [] g h e same = refl
size_same [] (y ∷ ys) g h e same = absurd (omega arith)
size_same (x ∷ xs) [] g h e same = absurd (omega arith)
size_same (x ∷ xs) (y ∷ ys) g h e same =
    let here : one_if (is_in g x) ≡ one_if (is_in h y) = ap one_if (same 0) in
    omega (arith, here, size-cons x xs g, size-cons y ys h, size_same xs ys g h (omega arith) (λ i. same (suc i)))

-- a register belongs to a group if its fact says so
pub belongs_at : (facts : List Fact) (g p : ℕ) (f : Fact) → slice_get facts p ≡ Some f → belongs facts g p ≡ is_in g f
belongs_at facts g p f e = ap (λ o. option_map_or (is_in g) o false) e

-- a register that belongs to a group has a fact that says so
pub belongs_there : (facts : List Fact) (g p : ℕ) → belongs facts g p ≡ true → (f : Fact) × (slice_get facts p ≡ Some f) × (is_in g f ≡ true)
belongs_there facts g p h = go (slice_get facts p) refl
  where
    go : (o : Option Fact) → slice_get facts p ≡ o → (f : Fact) × (slice_get facts p ≡ Some f) × (is_in g f ≡ true)
    go None e = let no : false ≡ true = sym (ap (λ o. option_map_or (is_in g) o false) e) ∙ h in cc
    go (Some f) e = (f, e, sym (belongs_at facts g p f e) ∙ h)

-- writing one register's fact keeps what the others belong to
pub belongs_other : (facts : List Fact) (g p i : ℕ) (f : Fact) → i ≢ p → belongs (slice_set facts p f) g i ≡ belongs facts g i
belongs_other facts g p i f ne = ap (λ o. option_map_or (is_in g) o false) (get_set_other facts p i f ne)

-- a register belongs to what its new fact says
pub belongs_set : (facts : List Fact) (g p : ℕ) (f f' : Fact) → slice_get facts p ≡ Some f → belongs (slice_set facts p f') g p ≡ is_in g f'
belongs_set facts g p f f' e = belongs_at (slice_set facts p f') g p f' (get_set_same facts p f' f e)

-- the share of a sole packet is no group's
pub sole_no_group : (g : ℕ) → (sole == share_of_group g) ≡ false
sole_no_group g = ne_eqb sole (share_of_group g) (λ e. absurd (omega (arith, e)))

-- the share of a loose packet is no group's
pub loose_no_group : (g : ℕ) → (loose == share_of_group g) ≡ false
loose_no_group g = ne_eqb loose (share_of_group g) (λ e. absurd (omega (arith, e)))

-- nor is that of chained packets
pub chained_no_group : (a b g : ℕ) → (chained_share a b == share_of_group g) ≡ false
chained_no_group a b g = ne_eqb (chained_share a b) (share_of_group g) (λ e. absurd (omega (arith, e, most ((a == sole) && (b == sole)) (owns_head a))))
  where
    most : (x y : Bool) → cond x sole (cond y head_sole loose) ≤ sole
    most true y = omega arith
    most false true = omega arith
    most false false = omega arith

-- two groups have two names
pub other_group : (m x : ℕ) → m ≢ x → (share_of_group m == share_of_group x) ≡ false
other_group m x ne = ne_eqb (share_of_group m) (share_of_group x) (λ e. ne (omega (arith, e)))

-- the group of a register is the one to which it belongs
pub is_in_group : (g : ℕ) (f : Fact) → is_in g f ≡ true → group_of f ≡ Some g
is_in_group g Empty e = cc
is_in_group g (Held share head tail first last segs) e =
    let is : share ≡ share_of_group g = eqb-true share (share_of_group g) e in
    let above : nat_le first_group share ≡ true = le-leb first_group share (omega (arith, is)) in
    let less : share - first_group ≡ g = omega (arith, is) in
    ap (λ t. cond t (Some (share - first_group)) None) above ∙ ap Some less

-- and it belongs to its group
pub group_is : (g : ℕ) (f : Fact) → group_of f ≡ Some g → is_in g f ≡ true
group_is g Empty e = cc
group_is g (Held share head tail first last segs) e = go (nat_le first_group share) refl
  where
    go : (b : Bool) → nat_le first_group share ≡ b → (share == share_of_group g) ≡ true
    go true above =
        let is : share - first_group ≡ g = same_Some (share - first_group) g (sym (ap (λ t. cond t (Some (share - first_group)) None) above) ∙ e) in
        eq-eqb share (share_of_group g) (omega (arith, is, leb-true first_group share above))
    go false below = let wrong : None ≡ Some g = sym (ap (λ t. cond t (Some (share - first_group)) None) below) ∙ e in cc

-- a fact names one group
pub is_in_one : (g x : ℕ) (f : Fact) → is_in g f ≡ true → is_in x f ≡ true → g ≡ x
is_in_one g x Empty e h = cc
is_in_one g x (Held share head tail first last segs) e h = omega (arith, eqb-true share (share_of_group g) e, eqb-true share (share_of_group x) h)

-- a register belongs to one group
pub in_one : (facts : List Fact) (g x i : ℕ) → x ≢ g → belongs facts g i ≡ true → belongs facts x i ≡ false
in_one facts g x i ne inside = go (belongs facts x i) refl
  where
    go : (t : Bool) → belongs facts x i ≡ t → belongs facts x i ≡ false
    go false e = e
    go true e =
        let (f, at, is) = belongs_there facts g i inside in
        absurd (ne (sym (is_in_one g x f is (sym (belongs_at facts x i f at) ∙ e))))

reshared_in : (x g share : ℕ) (f : Fact) → is_in g f ≡ true → is_in x (reshared_fact g share f) ≡ (share == share_of_group x)
reshared_in x g share Empty e = cc
reshared_in x g share (Held old head tail first last segs) e = ap (λ t. cond t share old == share_of_group x) e

reshared_out : (x g share : ℕ) (f : Fact) → is_in g f ≡ false → is_in x (reshared_fact g share f) ≡ is_in x f
reshared_out x g share Empty e = refl
reshared_out x g share (Held old head tail first last segs) e = ap (λ t. cond t share old == share_of_group x) e

-- in a group that gets a new share, registers belong to what the share says
pub belongs_in : (facts : List Fact) (x g share i : ℕ) → belongs facts g i ≡ true → belongs (reshared g share facts) x i ≡ (share == share_of_group x)
belongs_in [] x g share i e = cc
belongs_in (f ∷ facts) x g share zero e = reshared_in x g share f e
belongs_in (f ∷ facts) x g share (suc i) e = belongs_in facts x g share i e

-- others belong to what they did
pub belongs_out : (facts : List Fact) (x g share i : ℕ) → belongs facts g i ≡ false → belongs (reshared g share facts) x i ≡ belongs facts x i
belongs_out [] x g share i e = refl
belongs_out (f ∷ facts) x g share zero e = reshared_out x g share f e
belongs_out (f ∷ facts) x g share (suc i) e = belongs_out facts x g share i e

-- all of a group get another share
pub reshared_at : (facts : List Fact) (g n q : ℕ) (h : Holding) → slice_get facts q ≡ Some (held h) → (h.share == share_of_group g) ≡ true →
    slice_get (reshared g n facts) q ≡ Some (held (shared n h))
reshared_at [] g n q h e inside = cc
reshared_at (f ∷ facts) g n zero h e inside =
    let is : f ≡ held h = same_Some f (held h) e in
    ap (λ x. Some (reshared_fact g n x)) is ∙ ap (λ b. Some (held (shared (cond b n h.share) h))) inside
reshared_at (f ∷ facts) g n (suc q) h e inside = reshared_at facts g n q h e inside

-- two rows with the same registers in a group: each register belongs to it in both or in neither
pub same_at : (xs ys : List Fact) (g : ℕ) → same_registers xs ys g ≡ true → (length ys ≡ length xs) × ((i : ℕ) → belongs ys g i ≡ belongs xs g i)
same_at [] [] g e = (refl, λ i. refl)
same_at [] (y ∷ ys) g e = cc
same_at (x ∷ xs) [] g e = cc
same_at (x ∷ xs) (y ∷ ys) g e =
    let (here, rest) = and_parts (beq (is_in g x) (is_in g y)) (same_registers xs ys g) e in
    let (long, each) = same_at xs ys g rest in
    (ap suc long, at (sym ((booleans_Decides (is_in g x) (is_in g y)).0 here)) each)
  where
    at : is_in g y ≡ is_in g x → ((i : ℕ) → belongs ys g i ≡ belongs xs g i) → (i : ℕ) → belongs (y ∷ ys) g i ≡ belongs (x ∷ xs) g i
    at first each zero = first
    at first each (suc i) = each i

-- if each group of a row is kept, so is the group of each fact
pub kept_at : (as' : List Fact) (bs : List Fact) (i g : ℕ) (f : Fact)
    → list_all (λ other. option_map_or (same_registers as' bs) (group_of other) true) bs ≡ true → slice_get bs i ≡ Some f → is_in g f ≡ true
    → same_registers as' bs g ≡ true
kept_at as' bs i g f e at inside =
    let here = all_at (λ other. option_map_or (same_registers as' bs) (group_of other) true) bs i f e at in
    sym (ap (λ o. option_map_or (same_registers as' bs) o true) (is_in_group g f inside)) ∙ here

-- a row after a register's group is dissolved, by cases of that group
pub dissolved_is : (row : Row) (p : ℕ) (o : Option ℕ) → group_at row p ≡ o → dissolved row p ≡ option_map_or (λ g. with_shares row g loose) o row
dissolved_is row p o e = ap (λ o. option_map_or (λ g. with_shares row g loose) o row) e

-- the group of a register that belongs to one
pub group_at_is : (row : Row) (p g : ℕ) → belongs row.facts g p ≡ true → group_at row p ≡ Some g
group_at_is row p g inside =
    let (f, at, is) = belongs_there row.facts g p inside in
    ap (λ o. option_and_then group_of o) at ∙ is_in_group g f is

-- a register belongs to its group
pub group_at_belongs : (row : Row) (p g : ℕ) → group_at row p ≡ Some g → belongs row.facts g p ≡ true
group_at_belongs row p g e = go (slice_get row.facts p) refl
  where
    go : (o : Option Fact) → slice_get row.facts p ≡ o → belongs row.facts g p ≡ true
    go None at = let wrong : None ≡ Some g = sym (ap (λ o. option_and_then group_of o) at) ∙ e in cc
    go (Some f) at = belongs_at row.facts g p f at ∙ group_is g f (sym (ap (λ o. option_and_then group_of o) at) ∙ e)

-- a register without a group belongs to none
pub group_at_none : (row : Row) (p : ℕ) → group_at row p ≡ None → (g : ℕ) → belongs row.facts g p ≡ false
group_at_none row p e g = by_cases (belongs row.facts g p) (λ inside. let wrong : None ≡ Some g = sym e ∙ group_at_is row p g inside in cc) (λ outside. outside)

-- a register belongs to no group after its group is dissolved
pub dissolved_out : (row : Row) (p g : ℕ) → belongs (dissolved row p).facts g p ≡ false
dissolved_out row p g = go (group_at row p) refl
  where
    go : (o : Option ℕ) → group_at row p ≡ o → belongs (dissolved row p).facts g p ≡ false
    go None e = ap (λ r. belongs r.facts g p) (dissolved_is row p None e) ∙ group_at_none row p e g
    go (Some x) e = ap (λ r. belongs r.facts g p) (dissolved_is row p (Some x) e)
        ∙ (belongs_in row.facts g x loose p (group_at_belongs row p x e) ∙ loose_no_group g)

-- what belonged to no group still does not
pub dissolved_stays : (row : Row) (p q g : ℕ) → belongs row.facts g q ≡ false → belongs (dissolved row p).facts g q ≡ false
dissolved_stays row p q g out = go (group_at row p) refl
  where
    go : (o : Option ℕ) → group_at row p ≡ o → belongs (dissolved row p).facts g q ≡ false
    go None e = ap (λ r. belongs r.facts g q) (dissolved_is row p None e) ∙ out
    go (Some x) e = ap (λ r. belongs r.facts g q) (dissolved_is row p (Some x) e) ∙ by_cases (belongs row.facts x q)
        (λ inside. belongs_in row.facts g x loose q inside ∙ loose_no_group g)
        (λ outside. belongs_out row.facts g x loose q outside ∙ out)

-- the groups of a well-formed row are as they should be
pub groups_of_row : (row : Row) → is_well_formed_row row ≡ true → are_groups row.facts ≡ true
groups_of_row row e =
    (and_parts (list_all is_fact_of_row row.facts) (are_groups row.facts) (and_parts (list_all is_fact_of_row row.facts && are_groups row.facts) _ e).0).1

-- the register that names a group belongs to it
pub least_belongs : (facts : List Fact) (g m : ℕ) → least_member facts g ≡ Some m → belongs facts g m ≡ true
least_belongs facts g m e = or_at facts m ∙ (position-Some (is_in g) facts m Empty e).1
  where
    or_at : (facts : List Fact) (m : ℕ) → belongs facts g m ≡ is_in g (get_or facts m Empty)
    or_at [] m = refl
    or_at (f ∷ facts) zero = refl
    or_at (f ∷ facts) (suc m) = or_at facts m

-- if any register belongs to a group, the one that names it does
pub named_by : (facts : List Fact) (g i : ℕ) → are_groups facts ≡ true → belongs facts g i ≡ true → belongs facts g g ≡ true
named_by facts g i e inside =
    let (f, at, is) = belongs_there facts g i inside in
    let here = all_at (λ fact. option_map_or (is_group facts) (group_of fact) true) facts i f e at in
    let group : is_group facts g ≡ true = sym (ap (λ o. option_map_or (is_group facts) o true) (is_in_group g f is)) ∙ here in
    let (p, first, same) = map_or_true (λ p. p == g) (least_member facts g)
    (and_parts (nat_le 2 (group_size facts g)) (option_map_or (λ p. p == g) (least_member facts g) false) group).1 in
    subst (λ n. belongs facts g n ≡ true) (eqb-true p g same) (least_belongs facts g p first)

-- if the register that would name a group is not in it, no register is
pub unnamed : (facts : List Fact) (m : ℕ) → are_groups facts ≡ true → belongs facts m m ≡ false → (i : ℕ) → belongs facts m i ≡ false
unnamed facts m e out i = by_cases (belongs facts m i) (λ inside. let wrong : true ≡ false = sym (named_by facts m i e inside) ∙ out in cc) (λ outside. outside)

-- the fact of a register that holds a packet
pub fact_at : (row : Row) (p : ℕ) (h : Holding) → held_at row p ≡ Some h → slice_get row.facts p ≡ Some (held h)
fact_at row p h e = go (slice_get row.facts p) refl
  where
    go : (o : Option Fact) → slice_get row.facts p ≡ o → slice_get row.facts p ≡ Some (held h)
    go None at = let wrong : None ≡ Some h = sym (ap (λ o. option_and_then holding o) at) ∙ e in cc
    go (Some Empty) at = let wrong : None ≡ Some h = sym (ap (λ o. option_and_then holding o) at) ∙ e in cc
    go (Some (Held a b x d y z)) at =
        let same : record { share = a; head = b; tail = x; first = d; last = y; segs = z } ≡ h = same_Some _ h
        (sym (ap (λ o. option_and_then holding o) at) ∙ e) in
        at ∙ ap (λ j. Some (held j)) same

-- a row after the fact of a register with a packet is changed
pub changed_is : (row : Row) (p : ℕ) (f : Holding → Holding) (h : Holding) → held_at row p ≡ Some h → changed row p f ≡ with_fact row p (held (f h))
changed_is row p f h e = ap (λ o. option_map_or (λ j. with_fact row p (held (f j))) o row) e

-- what remains of a group is named by one of its registers, so by none of another group
pub left_name : (row : Row) (p g m : ℕ) → are_groups row.facts ≡ true → (f : Fact) → slice_get row.facts p ≡ Some f → belongs (emptied row p).facts g m ≡ true
    → (m ≡ g) ⊎ ((i : ℕ) → belongs (emptied row p).facts m i ≡ false)
left_name row p g m fits f at inside = ⊎_elim inl (λ ne. inr (none ne)) (cases_eq m g)
  where
    gone : (x : ℕ) → belongs (emptied row p).facts x p ≡ false
    gone x = belongs_set row.facts x p f Empty at

    before : belongs row.facts g m ≡ true
    before = sym (belongs_other row.facts g p m Empty (λ is. let wrong : true ≡ false = sym inside ∙ (ap (belongs (emptied row p).facts g) is ∙ gone g) in cc))
        ∙ inside

    none : m ≢ g → (i : ℕ) → belongs (emptied row p).facts m i ≡ false
    none ne i = ⊎_elim
        (λ is. ap (belongs (emptied row p).facts m) is ∙ gone m)
        (λ apart. belongs_other row.facts m p i Empty apart ∙ unnamed row.facts m fits (in_one row.facts g m m ne before) i)
        (cases_eq i p)

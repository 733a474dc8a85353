-- Edits of rows keep that one row is stronger than the other.
use Rattle.std.proofs.Common.{◌≡◌, ℕ, zero, suc, ◌≤◌, Bool, true, false, ◌&&◌, ◌==◌, cond, List, [], ◌∷◌, Option, Some, None, refl, sym, ap, ◌∙◌}
use Rattle.std.proofs.Common.{⊎_elim, subst, arith, ◌+◌, length, min, inl, inr, ◌⊎◌}
use Rattle.std.specs.Prelude.{nat_le, slice_get, slice_set, option_and_then, ◌≢◌}
use Rattle.std.specs.List.{list_all, AllZip, position_from}
use Rattle.std.specs.Option.{option_map_or}
use Rattle.std.proofs.lemmas.Bool.{leb-true, leb-false, and_parts, eq-eqb, eqb-true, ne_eqb, cases_eq}
use Rattle.std.proofs.lemmas.Bool.Decides.{Decides-eqb}
use Rattle.dp_model.specs.declared.row.Fact.{Fact}
use Rattle.dp_model.specs.declared.row.Fact.TheVariants.{Empty, Held}
use Rattle.dp_model.specs.declared.row.Row.{Row}
use Rattle.dp_model.specs.Facts.{is_share}
use Rattle.dp_model.specs.Groups.{are_groups, belongs, group_size, least_member, share_left, is_in, share_of_group, reshared_fact, reshared}
use Rattle.std.proofs.lemmas.Option.{same_Some}
use Rattle.dp_model.specs.Laws.Groups.{group_at_is, group_at_belongs, group_at_none, dissolved_out, dissolved_stays, groups_of_row, least_belongs, unnamed}
use Rattle.dp_model.specs.Laws.Groups.{fact_at, changed_is, belongs_at, belongs_there, belongs_set, belongs_other, belongs_in, belongs_out, in_one, size_same}
use Rattle.dp_model.specs.Laws.Groups.{other_group, sole_no_group, loose_no_group, left_name, chained_no_group, reshared_at}
use Rattle.dp_infer.proofs.Stronger.{StrongerFact, zip_length, StrongerHolding, StrongerOption, Stronger}
use Rattle.dp_model.specs.declared.row.Holding.{Holding}
use Rattle.dp_model.specs.Rows.{shared, twin, twin_share, joins, holding, held, held_at, with_fact, emptied, changed}
use Rattle.dp_model.specs.Rows.{entails_share, after_chain, group_at, with_shares, renamed, dissolved, after_free, after_leave, after_chained}
use Rattle.dp_model.specs.Rows.{after_clone, if_single, is_fact_of_row, is_well_formed_row}
use Rattle.dp_model.specs.Rules.{is_empty_at}
use Rattle.dp_model.specs.Laws.Lists.{get_set_other}
use Rattle.dp_model.specs.Laws.Cases.{by_cases}
use Rattle.std.proofs.lemmas.Iterator.Adapters.{position_from-zero}
use Rattle.dp_infer.proofs.Sharing.{KeepsGroups, keeps_moved, keeps_out, keeps_dissolved, set_out, share_same, share_zero, share_cases, share_chained}
use Rattle.dp_infer.proofs.Sharing.{sole_more}
use Rattle.dp_infer.proofs.Registers.{zip_set, fact_set, held_both}

-- a packet has a segment, and groups are groups
abbrev pub AreWellFormed : Row → Type 0
AreWellFormed row = is_well_formed_row row ≡ true

pub facts_fit : (row : Row) → AreWellFormed row → list_all is_fact_of_row row.facts ≡ true
facts_fit row e =
    (and_parts (list_all is_fact_of_row row.facts) (are_groups row.facts) (and_parts (list_all is_fact_of_row row.facts && are_groups row.facts) _ e).0).0

pub fact_segs : (fact : Fact) (x : Holding) → is_fact_of_row fact ≡ true → holding fact ≡ Some x → 1 ≤ x.segs
fact_segs Empty x fits e = absurd cc
fact_segs (Held share head tail first last segs) x fits e =
    let (a, b) = and_parts (is_share share && nat_le 1 segs) (nat_le segs 64) fits in
    let (c, d) = and_parts (is_share share) (nat_le 1 segs) a in
    let some = leb-true 1 segs d in
    let same : record { share = share; head = head; tail = tail; first = first; last = last; segs = segs } ≡ x = cc in
    subst (λ (h : Holding). 1 ≤ h.segs) same some

pub facts_segs : (facts : List Fact) (p : ℕ) (x : Holding) → list_all is_fact_of_row facts ≡ true → option_and_then holding (slice_get facts p) ≡ Some x →
    1 ≤ x.segs
facts_segs [] p x fits e = absurd cc
facts_segs (f ∷ fs) zero x fits e = fact_segs f x (and_parts (is_fact_of_row f) (list_all is_fact_of_row fs) fits).0 e
facts_segs (f ∷ fs) (suc p) x fits e = facts_segs fs p x (and_parts (is_fact_of_row f) (list_all is_fact_of_row fs) fits).1 e

-- ---- a fact changed

-- a changed fact belongs to the same groups
changed_belongs : (row : Row) (p : ℕ) (f : Holding → Holding) → ((h : Holding) → held_at row p ≡ Some h → (x : ℕ) → is_in x (held (f h)) ≡ is_in x (held h)) →
    (x i : ℕ) → belongs (changed row p f).facts x i ≡ belongs row.facts x i
changed_belongs row p f keeps x i = go (held_at row p) refl
  where
    go : (o : Option Holding) → held_at row p ≡ o → belongs (changed row p f).facts x i ≡ belongs row.facts x i
    go None e = rw e refl
    go (Some h) e = rw e (⊎_elim
        (λ is. cc (belongs_set row.facts x p (held h) (held (f h)) (fact_at row p h e), keeps h e x, belongs_at row.facts x p (held h) (fact_at row p h e)))
        (λ ne. belongs_other row.facts x p i (held (f h)) ne)
        (cases_eq i p))

changed_go : (a b : Row) (p : ℕ) (f g : Holding → Holding) (x y : Option Holding) → Stronger a b → StrongerOption x y → held_at a p ≡ x → held_at b p ≡ y
    → ((h k : Holding) → x ≡ Some h → StrongerHolding h k → StrongerHolding (f h) (g k)) → KeepsGroups (changed a p f).facts (changed b p g).facts
    → Stronger (option_map_or (λ h. with_fact a p (held (f h))) x a) (option_map_or (λ k. with_fact b p (held (g k))) y b)
changed_go a b p f g None None s o ex ey each groups = s
changed_go a b p f g (Some x) (Some y) s o ex ey each groups =
    fact_set a b p (held (f x)) (held (g y)) s (each x y refl o) (rw (ex, ey) at groups)
changed_go a b p f g x y s o ex ey each groups = absurd o

pub changed_keeps : (a b : Row) (p : ℕ) (f g : Holding → Holding) → Stronger a b → AreWellFormed a → ((h : Holding) → (f h).share ≡ h.share) →
    ((h : Holding) → (g h).share ≡ h.share)
    → ((h k : Holding) → 1 ≤ h.segs → StrongerHolding h k → StrongerHolding (f h) (g k))
    → Stronger (changed a p f) (changed b p g)
changed_keeps a b p f g s fits keep keep' each =
    changed_go a b p f g (held_at a p) (held_at b p) s (held_both a b p s) refl refl (λ h k e. each h k (facts_segs a.facts p h (facts_fit a fits) e))
    (keeps_moved a.facts (changed a p f).facts b.facts (changed b p g).facts (changed_belongs a p f (λ h e x. ap (λ n. n == share_of_group x) (keep h)))
    (changed_belongs b p g (λ h e x. ap (λ n. n == share_of_group x) (keep' h))) s.groups)

pub single_more : (h k : Holding) (n : ℕ) → 1 ≤ h.segs → h.segs ≤ k.segs → if_single k n ≤ if_single h n
single_more h k n some less = go (k.segs == 1) refl
  where
    go : (b : Bool) → (k.segs == 1) ≡ b → cond b n 0 ≤ if_single h n
    go false e = omega arith
    go true e =
        let one : k.segs ≡ 1 = (Decides-eqb k.segs 1).0 e in
        let test : (h.segs == 1) ≡ true = eq-eqb h.segs 1 (omega arith) in
        rw test (omega arith)

-- ---- instructions that change groups

pub emptied_keeps : (a b : Row) (p : ℕ) → Stronger a b → Stronger (emptied a p) (emptied b p)
emptied_keeps a b p s = fact_set a b p Empty Empty s tt (keeps_out a.facts b.facts p Empty Empty (λ x. refl) (λ x. refl) s.groups)

-- ---- dissolving groups

-- a register of the group gets another share, and the other row says nothing of it
one_left : (g n : ℕ) (f h : Fact) → StrongerFact f h → (is_in g f ≡ true → is_in g h ≡ false) → StrongerFact (reshared_fact g n f) h
one_left g n Empty Empty m out = tt
one_left g n (Held share head tail first last segs) (Held s h t f l k) m out =
    record { share = go (share == share_of_group g) refl; head = m.head; tail = m.tail; first = m.first; last = m.last; segs = m.segs }
  where
    loose : (share == share_of_group g) ≡ true → s ≡ 0
    loose e = ⊎_elim (λ z. z) (⊎_elim
        (λ same. cc (out e))
        (λ (two, one). absurd (omega (arith, two, eqb-true share (8 + g) e)))) (share_cases share s m.share)

    go : (b : Bool) → (share == share_of_group g) ≡ b → entails_share (cond (share == share_of_group g) n share) s ≡ true
    go true e = share_zero (cond (share == share_of_group g) n share) s (loose e)
    go false e = rw e m.share
one_left g n x y m out = absurd m

pub reshared_left : (g n : ℕ) (fs hs : List Fact) → AllZip StrongerFact fs hs → ((i : ℕ) → belongs fs g i ≡ true → belongs hs g i ≡ false) →
    AllZip StrongerFact (reshared g n fs) hs
reshared_left g n [] [] z out = tt
reshared_left g n (f ∷ fs) (h ∷ hs) z out = (one_left g n f h z.0 (out 0), reshared_left g n fs hs z.1 (λ i. out (suc i)))
reshared_left g n x y z out = absurd z

-- it gets the same share in both rows
one_both : (g n : ℕ) (f h : Fact) → StrongerFact f h → is_in g f ≡ is_in g h → StrongerFact (reshared_fact g n f) (reshared_fact g n h)
one_both g n Empty Empty m same = tt
one_both g n (Held share head tail first last segs) (Held s h t f l k) m same =
    record { share = go (share == share_of_group g) refl; head = m.head; tail = m.tail; first = m.first; last = m.last; segs = m.segs }
  where
    go : (b : Bool) → (share == share_of_group g) ≡ b → entails_share (cond (share == share_of_group g) n share) (cond (s == share_of_group g) n s) ≡ true
    go true e = rw (e, sym same ∙ e) (share_same n)
    go false e = rw (e, sym same ∙ e) m.share
one_both g n x y m same = absurd m

pub reshared_both : (g n : ℕ) (fs hs : List Fact) → AllZip StrongerFact fs hs → ((i : ℕ) → belongs fs g i ≡ belongs hs g i) →
    AllZip StrongerFact (reshared g n fs) (reshared g n hs)
reshared_both g n [] [] z same = tt
reshared_both g n (f ∷ fs) (h ∷ hs) z same = (one_both g n f h z.0 (same 0), reshared_both g n fs hs z.1 (λ i. same (suc i)))
reshared_both g n x y z same = absurd z

pub dissolved_keeps : (a b : Row) (p : ℕ) → Stronger a b → Stronger (dissolved a p) (dissolved b p)
dissolved_keeps a b p s = go (group_at a p) (group_at b p) refl refl
  where
    fact_of : (o o' : Option ℕ) → AllZip StrongerFact (option_map_or (λ g. with_shares a g 0) o a).facts (option_map_or (λ g. with_shares b g 0) o' b).facts →
        group_at a p ≡ o → group_at b p ≡ o' → AllZip StrongerFact (dissolved a p).facts (dissolved b p).facts
    fact_of o o' z e e' = rw (e, e') z

    made : AllZip StrongerFact (dissolved a p).facts (dissolved b p).facts → (x y : Option ℕ) → group_at a p ≡ x → group_at b p ≡ y →
        Stronger (dissolved a p) (dissolved b p)
    made z x y e e' = record {
      live = live a x e ∙ s.live;
      other_live = live b y e' ∙ s.other_live;
      facts = z;
      groups = keeps_dissolved a b p s.groups;
      bounds = rw (bounds a x e, bounds b y e') s.bounds;
    }
      where
        live : (r : Row) (o : Option ℕ) → group_at r p ≡ o → (dissolved r p).live ≡ r.live
        live r None e = rw e refl
        live r (Some g) e = rw e refl

        bounds : (r : Row) (o : Option ℕ) → group_at r p ≡ o → (dissolved r p).bounds ≡ r.bounds
        bounds r None e = rw e refl
        bounds r (Some g) e = rw e refl

    -- a group of p in the second row is one in the first
    both : (g : ℕ) → group_at b p ≡ Some g → (j : ℕ) → belongs a.facts g j ≡ belongs b.facts g j
    both g e = s.groups p g (group_at_belongs b p g e)

    go : (x y : Option ℕ) → group_at a p ≡ x → group_at b p ≡ y → Stronger (dissolved a p) (dissolved b p)
    go None None e e' = made (fact_of None None s.facts e e') None None e e'
    go None (Some g) e e' = cc (group_at_none a p e g, both g e' p, group_at_belongs b p g e')
    go (Some g) None e e' =
        made (fact_of (Some g) None (reshared_left g 0 a.facts b.facts s.facts
        (λ i inside. by_cases (belongs b.facts g i)
        (λ here. cc (group_at_belongs a p g e, s.groups i g here p, group_at_none b p e' g))
        (λ away. away))) e e') (Some g) None e e'
    go (Some g) (Some x) e e' =
        let there : belongs a.facts x p ≡ true = both x e' p ∙ group_at_belongs b p x e' in
        let same : g ≡ x = same_Some g x (sym e ∙ group_at_is a p x there) in
        made (fact_of (Some g) (Some x) (rw same (reshared_both x 0 a.facts b.facts s.facts (both x e'))) e e') (Some g) (Some x) e e'

pub leave_keeps' : (a b : Row) (p : ℕ) → Stronger a b → Stronger (after_leave a p) (after_leave b p)
leave_keeps' a b p s = emptied_keeps (dissolved a p) (dissolved b p) p (dissolved_keeps a b p s)

-- ---- chaining two packets

chain_go : (a b : Row) (p q : ℕ) (x y : Option Holding) → Stronger a b → ((g : ℕ) → belongs a.facts g p ≡ false) → ((g : ℕ) → belongs b.facts g p ≡ false) →
    StrongerOption x y
    → Stronger (option_map_or (λ t. emptied (changed a p (λ h. after_chain h t)) q) x a)
    (option_map_or (λ t. emptied (changed b p (λ h. after_chain h t)) q) y b)
chain_go a b p q None None s out out' o = s
chain_go a b p q (Some x) (Some y) s out out' o =
    emptied_keeps (changed a p (λ h. after_chain h x)) (changed b p (λ h. after_chain h y)) q
    (changed_go a b p (λ h. after_chain h x) (λ h. after_chain h y) (held_at a p) (held_at b p) s (held_both a b p s) refl refl
    (λ h k e m. record {
      share = share_chained h.share x.share k.share y.share m.share o.share;
      head = m.head;
      tail = o.tail;
      first = m.first;
      last = o.last;
      segs = omega (arith, m.segs, o.segs);
    })
    (keeps_moved a.facts (changed a p (λ h. after_chain h x)).facts b.facts (changed b p (λ h. after_chain h y)).facts
    (changed_belongs a p (λ h. after_chain h x) (λ h e g. chained_no_group h.share x.share g
    ∙ sym (sym (belongs_at a.facts g p (held h) (fact_at a p h e)) ∙ out g)))
    (changed_belongs b p (λ h. after_chain h y) (λ h e g. chained_no_group h.share y.share g
    ∙ sym (sym (belongs_at b.facts g p (held h) (fact_at b p h e)) ∙ out' g)))
    s.groups))
chain_go a b p q x y s out out' o = absurd o

pub chain_keeps : (a b : Row) (p q : ℕ) → Stronger a b → AreWellFormed a → Stronger (after_chained a p q) (after_chained b p q)
chain_keeps a b p q s fits =
    let one = dissolved_keeps a b p s in
    let two = dissolved_keeps (dissolved a p) (dissolved b p) q one in
    let a' = dissolved (dissolved a p) q in
    let b' = dissolved (dissolved b p) q in
    chain_go a' b' p q (held_at a' q) (held_at b' q) two
    (λ g. dissolved_stays (dissolved a p) q p g (dissolved_out a p g)) (λ g. dissolved_stays (dissolved b p) q p g (dissolved_out b p g))
    (held_both a' b' q two)

-- ---- freeing a packet

-- the least register of a group is the same where the same registers belong
least_same : (xs ys : List Fact) (g i : ℕ) → length xs ≡ length ys → ((j : ℕ) → belongs xs g j ≡ belongs ys g j) → position_from (is_in g) i xs
    ≡ position_from (is_in g) i ys
least_same [] [] g i long same = refl
least_same (x ∷ xs) (y ∷ ys) g i long same = by_cases (is_in g y)
    (λ here. let first : is_in g x ≡ true = same 0 ∙ here in rw (first, here) refl)
    (λ away. let first : is_in g x ≡ false = same 0 ∙ away in rw (first, away) (least_same xs ys g (i + 1) (omega arith) (λ j. same (suc j))))
least_same x y g i long same = absurd (omega arith)

pub least_is : (xs ys : List Fact) (g : ℕ) → length xs ≡ length ys → ((j : ℕ) → belongs xs g j ≡ belongs ys g j) → least_member xs g ≡ least_member ys g
least_is xs ys g long same = position_from-zero (is_in g) xs ∙ (least_same xs ys g 0 long same ∙ sym (position_from-zero (is_in g) ys))

share_left_same : (xs ys : List Fact) (g : ℕ) → length xs ≡ length ys → ((j : ℕ) → belongs xs g j ≡ belongs ys g j) → share_left xs g ≡ share_left ys g
share_left_same xs ys g long same = rw (size_same xs ys g g long same, least_is xs ys g long same) refl

-- the name of the rest of a group is that of no other
left_share : (a : Row) (p g x i : ℕ) → AreWellFormed a → (f : Fact) → slice_get a.facts p ≡ Some f → belongs (emptied a p).facts x i ≡ true → x ≢ g →
    (share_left (emptied a p).facts g == share_of_group x) ≡ false
left_share a p g x i fits f at inside ne = by_cases (group_size (emptied a p).facts g == 1)
    (λ one. rw one (sole_no_group x))
    (λ more. rw more (named (least_member (emptied a p).facts g) refl))
  where
    named : (o : Option ℕ) → least_member (emptied a p).facts g ≡ o
        → (option_map_or share_of_group (least_member (emptied a p).facts g) 0 == share_of_group x) ≡ false
    named None e = rw e (loose_no_group x)
    named (Some m) e = rw e (other_group m x (λ same. ⊎_elim
        (λ is. ne (sym same ∙ is))
        (λ none. cc (none i))
        (left_name a p g m (groups_of_row a fits) f at (least_belongs (emptied a p).facts g m e))))

-- the rest of a group is renamed in the first row only
renamed_left : (a b : Row) (p g : ℕ) → AreWellFormed a → (f : Fact) → slice_get a.facts p ≡ Some f → Stronger (emptied a p) (emptied b p) →
    ((i : ℕ) → belongs (emptied b p).facts g i ≡ false) → Stronger (renamed (emptied a p) g) (emptied b p)
renamed_left a b p g fits f at s none =
    let n = share_left (emptied a p).facts g in
    record {
      live = s.live;
      other_live = s.other_live;
      facts = reshared_left g n (emptied a p).facts (emptied b p).facts s.facts (λ i inside. none i);
      groups = λ i x inside j.
          let ne : x ≢ g = λ same. cc (none i) in
          let before : belongs (emptied a p).facts x i ≡ true = s.groups i x inside i ∙ inside in
          by_cases (belongs (emptied a p).facts g j)
          (λ here. belongs_in (emptied a p).facts x g n j here ∙ (left_share a p g x i fits f at before ne
          ∙ (sym (in_one (emptied a p).facts g x j ne here) ∙ s.groups i x inside j)))
          (λ away. belongs_out (emptied a p).facts x g n j away ∙ s.groups i x inside j);
      bounds = s.bounds;
    }

-- in both rows, to a name that no other group has
renamed_both : (a b : Row) (g n : ℕ) → Stronger a b → ((j : ℕ) → belongs a.facts g j ≡ belongs b.facts g j) →
    ((x i : ℕ) → belongs a.facts x i ≡ true → x ≢ g → (n == share_of_group x) ≡ false) → Stronger (with_shares a g n) (with_shares b g n)
renamed_both a b g n s same named = record {
  live = s.live;
  other_live = s.other_live;
  facts = reshared_both g n a.facts b.facts s.facts same;
  groups = λ i x inside j. by_cases (belongs a.facts g j)
      (λ here. belongs_in a.facts x g n j here ∙ sym (belongs_in b.facts x g n j (sym (same j) ∙ here)))
      (λ away. belongs_out a.facts x g n j away ∙ (by_cases (belongs b.facts g i) (renamed i x j inside away)
      (λ out. s.groups i x (sym (belongs_out b.facts x g n i out) ∙ inside) j) ∙ sym (belongs_out b.facts x g n j (sym (same j) ∙ away))));
  bounds = s.bounds;
}
  where
    renamed : (i x j : ℕ) → belongs (reshared g n b.facts) x i ≡ true → belongs a.facts g j ≡ false → belongs b.facts g i ≡ true →
        belongs a.facts x j ≡ belongs b.facts x j
    renamed i x j inside away ig = by_cases (belongs b.facts x j)
        (λ there. s.groups j x there j)
        (λ gone. by_cases (belongs a.facts x j)
        (λ here.
        let t : (n == share_of_group x) ≡ true = sym (belongs_in b.facts x g n i ig) ∙ inside in
        let wrong : true ≡ false = ⊎_elim
        (λ is. cc)
        (λ ne. sym t ∙ named x j here ne)
        (cases_eq x g) in cc)
        (λ none. none ∙ sym gone))

pub free_keeps : (a b : Row) (p : ℕ) → Stronger a b → AreWellFormed a → AreWellFormed b → Stronger (after_free a p) (after_free b p)
free_keeps a b p s fits fits' = go (group_at a p) (group_at b p) refl refl
  where
    e : Stronger (emptied a p) (emptied b p)
    e = emptied_keeps a b p s

    made : (o o' : Option ℕ) → Stronger (option_map_or (λ g. renamed (emptied a p) g) o (emptied a p))
        (option_map_or (λ g. renamed (emptied b p) g) o' (emptied b p)) → group_at a p ≡ o → group_at b p ≡ o' → Stronger (after_free a p) (after_free b p)
    made o o' z ea eb = rw (ea, eb) z

    both : (g : ℕ) → group_at b p ≡ Some g → (j : ℕ) → belongs a.facts g j ≡ belongs b.facts g j
    both g eb = s.groups p g (group_at_belongs b p g eb)

    out_b : group_at b p ≡ None → (g i : ℕ) → belongs a.facts g p ≡ true → belongs (emptied b p).facts g i ≡ false
    out_b eb g i here = by_cases (belongs (emptied b p).facts g i)
        (λ inside. ⊎_elim
        (λ is. rw is (set_out b.facts p g Empty refl))
        (λ ne.
        let before : belongs b.facts g i ≡ true = sym (belongs_other b.facts g p i Empty ne) ∙ inside in
        cc (s.groups i g before p, group_at_none b p eb g))
        (cases_eq i p))
        (λ away. away)

    go : (x y : Option ℕ) → group_at a p ≡ x → group_at b p ≡ y → Stronger (after_free a p) (after_free b p)
    go None None ea eb = made None None e ea eb
    go None (Some g) ea eb = cc (group_at_none a p ea g, both g eb p, group_at_belongs b p g eb)
    go (Some g) None ea eb =
        let here = group_at_belongs a p g ea in
        let (f, at, is) = belongs_there a.facts g p here in
        made (Some g) None (renamed_left a b p g fits f at e (λ i. out_b eb g i here)) ea eb
    go (Some g) (Some x) ea eb =
        let there : belongs a.facts x p ≡ true = both x eb p ∙ group_at_belongs b p x eb in
        let same : g ≡ x = same_Some g x (sym ea ∙ group_at_is a p x there) in
        let left : (j : ℕ) → belongs (emptied a p).facts x j ≡ belongs (emptied b p).facts x j = λ j. ⊎_elim
        (λ is. cc (set_out a.facts p x Empty refl, set_out b.facts p x Empty refl))
        (λ ne. cc (belongs_other a.facts x p j Empty ne, both x eb j, belongs_other b.facts x p j Empty ne))
        (cases_eq j p) in
        let names = share_left_same (emptied a p).facts (emptied b p).facts x (zip_length StrongerFact (emptied a p).facts (emptied b p).facts e.facts) left in
        made (Some g) (Some x)
        (rw (same, ← names) (renamed_both (emptied a p) (emptied b p) x (share_left (emptied a p).facts x) e left
        (λ y i inside ne. let (f, at, is) = belongs_there a.facts x p there in left_share a p x y i fits f at inside ne)))
        ea eb

-- ---- cloning a packet into an empty register

-- the groups of source and clone
twin_facts : (row : Row) (p q n : ℕ) (h : Holding) → held_at row q ≡ Some h →
    (twin row p q h n).facts ≡ slice_set (slice_set row.facts q (held (shared n h))) p (held (shared n h))
twin_facts row p q n h e = rw (changed_is row q (shared n) h e) refl

twin_p : (row : Row) (p q n : ℕ) (h : Holding) (f : Fact) (x : ℕ) → held_at row q ≡ Some h → slice_get row.facts p ≡ Some f → p ≢ q →
    belongs (twin row p q h n).facts x p ≡ (n == share_of_group x)
twin_p row p q n h f x e at ne =
    rw (twin_facts row p q n h e)
    (belongs_set (slice_set row.facts q (held (shared n h))) x p f (held (shared n h)) (get_set_other row.facts q p (held (shared n h)) ne ∙ at))

twin_q : (row : Row) (p q n : ℕ) (h : Holding) (x : ℕ) → held_at row q ≡ Some h → p ≢ q → belongs (twin row p q h n).facts x q ≡ (n == share_of_group x)
twin_q row p q n h x e ne =
    rw (twin_facts row p q n h e) (belongs_other (slice_set row.facts q (held (shared n h))) x p q (held (shared n h)) (λ is. ne (sym is))
    ∙ belongs_set row.facts x q (held h) (held (shared n h)) (fact_at row q h e))

twin_else : (row : Row) (p q n : ℕ) (h : Holding) (x i : ℕ) → held_at row q ≡ Some h → i ≢ p → i ≢ q → belongs (twin row p q h n).facts x i
    ≡ belongs row.facts x i
twin_else row p q n h x i e np nq =
    rw (twin_facts row p q n h e)
    (belongs_other (slice_set row.facts q (held (shared n h))) x p i (held (shared n h)) np ∙ belongs_other row.facts x q i (held (shared n h)) nq)

-- a register is one of these two, or another
module _ (row : Row) (p q n : ℕ) (h : Holding) (f : Fact) (e : held_at row q ≡ Some h) (at : slice_get row.facts p ≡ Some f) (ne : p ≢ q) where
  twin_cases : (i : ℕ) → ((x : ℕ) → belongs (twin row p q h n).facts x i ≡ (n == share_of_group x)) ⊎ ((i ≢ p) × (i ≢ q))
  twin_cases i = ⊎_elim
      (λ is. inl (λ x. rw is (twin_p row p q n h f x e at ne)))
      (λ np. ⊎_elim
      (λ is. inl (λ x. rw is (twin_q row p q n h x e ne)))
      (λ nq. inr (np, nq))
      (cases_eq i q))
      (cases_eq i p)

record Twins (a b : Row) (p q n n' : ℕ) (x y : Holding) : Type 0 where
  pub first : held_at a q ≡ Some x
  pub second : held_at b q ≡ Some y
  pub more : StrongerHolding x y
  pub share : entails_share n n' ≡ true
  pub at : slice_get a.facts p ≡ Some Empty
  pub at' : slice_get b.facts p ≡ Some Empty
  pub apart : p ≢ q
  -- the new group, if the second row has it, has the same registers in both
  pub new : (g : ℕ) → (n' == share_of_group g) ≡ true → ((n == share_of_group g) ≡ true) × ((j : ℕ) → belongs a.facts g j ≡ belongs b.facts g j)
  -- and no other group of the second row has its name
  pub old : (g i : ℕ) → belongs b.facts g i ≡ true → (n' == share_of_group g) ≡ false → (n == share_of_group g) ≡ false

twin_keeps : (a b : Row) (p q n n' : ℕ) (x y : Holding) → Stronger a b → Twins a b p q n n' x y → Stronger (twin a p q x n) (twin b p q y n')
twin_keeps a b p q n n' x y s t = record {
  live = rw (changed_is a q (shared n) x t.first) s.live;
  other_live = rw (changed_is b q (shared n') y t.second) s.other_live;
  facts = rw (twin_facts a p q n x t.first, twin_facts b p q n' y t.second)
      (zip_set StrongerFact (slice_set a.facts q (held (shared n x))) (slice_set b.facts q (held (shared n' y))) p (held (shared n x)) (held (shared n' y))
      (zip_set StrongerFact a.facts b.facts q (held (shared n x)) (held (shared n' y)) s.facts more) more);
  groups = λ i g inside j. by_cases (n' == share_of_group g) (fresh g j) (λ out. stale i g j out inside);
  bounds = rw (changed_is a q (shared n) x t.first, changed_is b q (shared n') y t.second) s.bounds;
}
  where
    more : StrongerHolding (shared n x) (shared n' y)
    more = record { share = t.share; head = t.more.head; tail = t.more.tail; first = t.more.first; last = t.more.last; segs = t.more.segs }

    both : (g j : ℕ) → (n == share_of_group g) ≡ (n' == share_of_group g) → belongs a.facts g j ≡ belongs b.facts g j → belongs (twin a p q x n).facts g j
        ≡ belongs (twin b p q y n').facts g j
    both g j name same = ⊎_elim
        (λ is. cc (twin_p a p q n x Empty g t.first t.at t.apart, twin_p b p q n' y Empty g t.second t.at' t.apart))
        (λ np. ⊎_elim
        (λ is. cc (twin_q a p q n x g t.first t.apart, twin_q b p q n' y g t.second t.apart))
        (λ nq. cc (twin_else a p q n x g j t.first np nq, twin_else b p q n' y g j t.second np nq))
        (cases_eq j q))
        (cases_eq j p)

    fresh : (g j : ℕ) → (n' == share_of_group g) ≡ true → belongs (twin a p q x n).facts g j ≡ belongs (twin b p q y n').facts g j
    fresh g j e = let (name, same) = t.new g e in both g j (name ∙ sym e) (same j)

    stale : (i g j : ℕ) → (n' == share_of_group g) ≡ false → belongs (twin b p q y n').facts g i ≡ true → belongs (twin a p q x n).facts g j
        ≡ belongs (twin b p q y n').facts g j
    stale i g j out inside = ⊎_elim
        (λ one. cc (one g))
        (λ (np, nq).
        let before : belongs b.facts g i ≡ true = sym (twin_else b p q n' y g i t.second np nq) ∙ inside in
        both g j (t.old g i before out ∙ sym out) (s.groups i g before j))
        (twin_cases b p q n' y Empty t.second t.at' t.apart i)

-- ---- the target is empty

empty_fact : (row : Row) (p : ℕ) → is_empty_at row p ≡ true → slice_get row.facts p ≡ Some Empty
empty_fact row p e = go (slice_get row.facts p) refl
  where
    go : (o : Option Fact) → slice_get row.facts p ≡ o → slice_get row.facts p ≡ Some Empty
    go None at = let wrong : false ≡ true = rw at at e in cc
    go (Some Empty) at = at
    go (Some (Held share head tail first last segs)) at = let wrong : false ≡ true = rw at at e in cc

empty_one : (f g : Fact) → StrongerFact f g → g ≡ Empty → f ≡ Empty
empty_one Empty g m e = refl
empty_one (Held share head tail first last segs) Empty m e = absurd m
empty_one (Held share head tail first last segs) (Held s h t f l k) m e = absurd cc

empty_more : (fs gs : List Fact) (p : ℕ) → AllZip StrongerFact fs gs → slice_get gs p ≡ Some Empty → slice_get fs p ≡ Some Empty
empty_more [] [] p z at = at
empty_more (f ∷ fs) (g ∷ gs) zero z at = ap Some (empty_one f g z.0 (same_Some g Empty at))
empty_more (f ∷ fs) (g ∷ gs) (suc p) z at = empty_more fs gs p z.1 at
empty_more x y p z at = absurd z

reshared_empty : (facts : List Fact) (g n p : ℕ) → slice_get facts p ≡ Some Empty → slice_get (reshared g n facts) p ≡ Some Empty
reshared_empty [] g n p e = e
reshared_empty (f ∷ facts) g n zero e = ap (λ x. Some (reshared_fact g n x)) (same_Some f Empty e)
reshared_empty (f ∷ facts) g n (suc p) e = reshared_empty facts g n p e

-- ---- names

-- the name is that of the group, or a register that no register belongs to
least_name : (row : Row) (p g : ℕ) → AreWellFormed row → slice_get row.facts p ≡ Some Empty → (min p g ≡ g) ⊎ ((i : ℕ) → belongs row.facts (min p g) i ≡ false)
least_name row p g fits at = by_cases (nat_le p g)
    (λ less. let is : min p g ≡ p = omega (arith, leb-true p g less) in
    inr (rw is (unnamed row.facts p (groups_of_row row fits) (belongs_at row.facts p p Empty at))))
    (λ more. inl (omega (arith, leb-false p g more)))

-- so it is no other group's
name_free : (row : Row) (p g x i : ℕ) → AreWellFormed row → slice_get row.facts p ≡ Some Empty → belongs row.facts x i ≡ true → x ≢ g →
    (share_of_group (min p g) == share_of_group x) ≡ false
name_free row p g x i fits at inside ne = other_group (min p g) x (λ same. ⊎_elim
    (λ is. ne (sym same ∙ is))
    (λ none. cc (none i))
    (least_name row p g fits at))

-- where the source belongs to no group, no register has the name of the new one
new_name : (row : Row) (p q : ℕ) → AreWellFormed row → slice_get row.facts p ≡ Some Empty → group_at row q ≡ None →
    (i : ℕ) → belongs row.facts (min p q) i ≡ false
new_name row p q fits at t = ⊎_elim
    (λ is. rw is (unnamed row.facts q (groups_of_row row fits) (group_at_none row q t q)))
    (λ none. none)
    (least_name row p q fits at)

-- a share that names a group
held_group : (row : Row) (q g : ℕ) (h : Holding) → held_at row q ≡ Some h → group_at row q ≡ Some g → (h.share == share_of_group g) ≡ true
held_group row q g h e t = sym (belongs_at row.facts g q (held h) (fact_at row q h e)) ∙ group_at_belongs row q g t

held_reshared : (row : Row) (q g n : ℕ) (h : Holding) → held_at row q ≡ Some h → group_at row q ≡ Some g → held_at (with_shares row g n) q ≡ Some (shared n h)
held_reshared row q g n h e t = ap (λ o. option_and_then holding o) (reshared_at row.facts g n q h (fact_at row q h e) (held_group row q g h e t))

-- ---- what both rows say of the source and the target

record Sources (a b : Row) (p q : ℕ) (x y : Holding) : Type 0 where
  pub stronger : Stronger a b
  pub fits : AreWellFormed a
  pub fits' : AreWellFormed b
  pub at : slice_get a.facts p ≡ Some Empty
  pub at' : slice_get b.facts p ≡ Some Empty
  pub first : held_at a q ≡ Some x
  pub second : held_at b q ≡ Some y
  pub more : StrongerHolding x y
  pub apart : p ≢ q

-- the source belongs to the same group in both
clone_both : (a b : Row) (p q g : ℕ) (x y : Holding) → Sources a b p q x y → group_at a q ≡ Some g → group_at b q ≡ Some g →
    Stronger (joins a p q x g) (joins b p q y g)
clone_both a b p q g x y c t t' =
    let n = share_of_group (min p g) in
    let r = with_shares a g n in
    let r' = with_shares b g n in
    let s : Stronger r r' = renamed_both a b g n c.stronger (c.stronger.groups q g (group_at_belongs b q g t'))
    (λ z i inside ne. name_free a p g z i c.fits c.at inside ne) in
    let e : held_at r q ≡ Some (shared n x) = held_reshared a q g n x c.first t in
    let e' : held_at r' q ≡ Some (shared n y) = held_reshared b q g n y c.second t' in
    twin_keeps r r' p q n n (shared n x) (shared n y) s (record {
      first = e;
      second = e';
      more = record { share = share_same n; head = c.more.head; tail = c.more.tail; first = c.more.first; last = c.more.last; segs = c.more.segs };
      share = share_same n;
      at = reshared_empty a.facts g n p c.at;
      at' = reshared_empty b.facts g n p c.at';
      apart = c.apart;
      new = λ z is. (is, λ j. s.groups q z (belongs_at r'.facts z q (held (shared n y)) (fact_at r' q (shared n y) e') ∙ is) j);
      old = λ z i inside out. out;
    })

-- it belongs to one in the first row only
clone_left : (a b : Row) (p q g : ℕ) (x y : Holding) → Sources a b p q x y → group_at a q ≡ Some g → group_at b q ≡ None →
    Stronger (joins a p q x g) (twin b p q y 0)
clone_left a b p q g x y c t t' =
    twin_keeps r b p q n 0 (shared n x) y s (record {
      first = e;
      second = c.second;
      more = rw (e, c.second) at (held_both r b q s);
      share = share_zero n 0 refl;
      at = reshared_empty a.facts g n p c.at;
      at' = c.at';
      apart = c.apart;
      new = λ z is. absurd (let wrong : true ≡ false = sym is ∙ loose_no_group z in cc);
      old = λ z i inside out. name_free a p g z i c.fits c.at (before i z inside) (other i z inside);
    })
  where
    n : ℕ
    n = share_of_group (min p g)

    r : Row
    r = with_shares a g n

    -- no register belongs to it in the second
    none : (i : ℕ) → belongs b.facts g i ≡ false
    none i = by_cases (belongs b.facts g i)
        (λ here. cc (group_at_belongs a q g t, c.stronger.groups i g here q, group_at_none b q t' g))
        (λ away. away)

    before : (i z : ℕ) → belongs b.facts z i ≡ true → belongs a.facts z i ≡ true
    before i z inside = c.stronger.groups i z inside i ∙ inside

    other : (i z : ℕ) → belongs b.facts z i ≡ true → z ≢ g
    other i z inside same = cc (none i)

    s : Stronger r b
    s = record {
      live = c.stronger.live;
      other_live = c.stronger.other_live;
      facts = reshared_left g n a.facts b.facts c.stronger.facts (λ i inside. none i);
      groups = λ i z inside j. by_cases (belongs a.facts g j)
          (λ here. belongs_in a.facts z g n j here ∙ (name_free a p g z i c.fits c.at (before i z inside) (other i z inside)
          ∙ (sym (in_one a.facts g z j (other i z inside) here) ∙ c.stronger.groups i z inside j)))
          (λ away. belongs_out a.facts z g n j away ∙ c.stronger.groups i z inside j);
      bounds = c.stronger.bounds;
    }

    e : held_at r q ≡ Some (shared n x)
    e = held_reshared a q g n x c.first t

-- it belongs to none in either
clone_begun : (a b : Row) (p q : ℕ) (x y : Holding) → Sources a b p q x y → group_at a q ≡ None → group_at b q ≡ None →
    Stronger (twin a p q x (twin_share p q x)) (twin b p q y (twin_share p q y))
clone_begun a b p q x y c t t' = go (x.share == 2) (y.share == 2) refl refl
  where
    n : ℕ
    n = share_of_group (min p q)

    made : (m m' : ℕ) → entails_share m m' ≡ true → ((z : ℕ) → (m' == share_of_group z) ≡ true →
        ((m == share_of_group z) ≡ true) × ((j : ℕ) → belongs a.facts z j ≡ belongs b.facts z j))
        → ((z i : ℕ) → belongs b.facts z i ≡ true → (m' == share_of_group z) ≡ false → (m == share_of_group z) ≡ false) →
        Stronger (twin a p q x m) (twin b p q y m')
    made m m' share new old = twin_keeps a b p q m m' x y c.stronger (record {
      first = c.first;
      second = c.second;
      more = c.more;
      share = share;
      at = c.at;
      at' = c.at';
      apart = c.apart;
      new = new;
      old = old;
    })

    no_new : (m z : ℕ) → (0 == share_of_group z) ≡ true → ((m == share_of_group z) ≡ true) × ((j : ℕ) → belongs a.facts z j ≡ belongs b.facts z j)
    no_new m z is = absurd (let wrong : true ≡ false = sym is ∙ loose_no_group z in cc)

    go : (u v : Bool) → (x.share == 2) ≡ u → (y.share == 2) ≡ v → Stronger (twin a p q x (cond (x.share == 2) n 0)) (twin b p q y (cond (y.share == 2) n 0))
    go u v eu ev = rw (eu, ev) (each u v eu ev)
      where
        each : (u v : Bool) → (x.share == 2) ≡ u → (y.share == 2) ≡ v → Stronger (twin a p q x (cond u n 0)) (twin b p q y (cond v n 0))
        each true true eu ev = made n n (share_same n)
            (λ z is.
            let same : min p q ≡ z = omega (arith, eqb-true (8 + min p q) (8 + z) is) in
            (is, λ j. cc (new_name a p q c.fits c.at t j, new_name b p q c.fits' c.at' t' j)))
            (λ z i inside out. out)
        each true false eu ev = made n 0 (share_zero n 0 refl) (no_new n)
            (λ z i inside out. other_group (min p q) z (λ same. cc (new_name b p q c.fits' c.at' t' i)))
        each false true eu ev =
            let two : x.share ≡ 2 = sole_more x.share y.share c.more.share (eqb-true y.share 2 ev) in
            let wrong : true ≡ false = sym (eq-eqb x.share 2 two) ∙ eu in cc
        each false false eu ev = made 0 0 (share_same 0) (no_new 0) (λ z i inside out. out)

-- the row after a clone
clone_is : (row : Row) (p q : ℕ) (h : Holding) (o : Option ℕ) → held_at row q ≡ Some h → group_at row q ≡ o →
    after_clone row p q ≡ option_map_or (joins row p q h) o (twin row p q h (twin_share p q h))
clone_is row p q h o e t = rw (e, t) refl

clone_none : (row : Row) (p q : ℕ) → held_at row q ≡ None → after_clone row p q ≡ row
clone_none row p q e = rw e refl

pub clone_keeps : (a b : Row) (p q : ℕ) → Stronger a b → AreWellFormed a → AreWellFormed b → is_empty_at b p ≡ true →
    Stronger (after_clone a p q) (after_clone b p q)
clone_keeps a b p q s fits fits' target = go (held_at a q) (held_at b q) refl refl (held_both a b q s)
  where
    at' : slice_get b.facts p ≡ Some Empty
    at' = empty_fact b p target

    at : slice_get a.facts p ≡ Some Empty
    at = empty_more a.facts b.facts p s.facts at'

    both : (x y : Row) → after_clone a p q ≡ x → after_clone b p q ≡ y → Stronger x y → Stronger (after_clone a p q) (after_clone b p q)
    both x y e e' z = rw (e, e') z

    groups : (x y : Holding) → Sources a b p q x y → (o o' : Option ℕ) → group_at a q ≡ o → group_at b q ≡ o' → Stronger (after_clone a p q) (after_clone b p q)
    groups x y c None None t t' =
        both (twin a p q x (twin_share p q x)) (twin b p q y (twin_share p q y)) (clone_is a p q x None c.first t) (clone_is b p q y None c.second t')
        (clone_begun a b p q x y c t t')
    groups x y c (Some g) None t t' =
        let ne : (y.share == 2) ≡ false = ne_eqb y.share 2 (λ two. absurd
        (omega (arith, sole_more x.share y.share c.more.share two, eqb-true x.share (8 + g) (held_group a q g x c.first t)))) in
        both (joins a p q x g) (twin b p q y (twin_share p q y)) (clone_is a p q x (Some g) c.first t) (clone_is b p q y None c.second t')
        (rw ne (clone_left a b p q g x y c t t'))
    groups x y c None (Some g) t t' = cc (group_at_none a q t g, s.groups q g (group_at_belongs b q g t') q, group_at_belongs b q g t')
    groups x y c (Some g) (Some h) t t' =
        let there : belongs a.facts h q ≡ true = s.groups q h (group_at_belongs b q h t') q ∙ group_at_belongs b q h t' in
        let same : group_at a q ≡ Some h = group_at_is a q h there in
        both (joins a p q x h) (joins b p q y h) (clone_is a p q x (Some h) c.first same) (clone_is b p q y (Some h) c.second t')
        (clone_both a b p q h x y c same t')

    go : (o o' : Option Holding) → held_at a q ≡ o → held_at b q ≡ o' → StrongerOption o o' → Stronger (after_clone a p q) (after_clone b p q)
    go None None e e' m = both a b (clone_none a p q e) (clone_none b p q e') s
    go (Some x) (Some y) e e' m =
        groups x y (record {
          stronger = s;
          fits = fits;
          fits' = fits';
          at = at;
          at' = at';
          first = e;
          second = e';
          more = m;
          apart = λ is. let wrong : None ≡ Some y = rw (← is, at') at e' in cc;
        }) (group_at a q) (group_at b q) refl refl
    go x y e e' m = absurd m

-- Sharing groups, when registers and references change.
use Rattle.std.proofs.Common.{◌≡◌, ◌≢◌, ◌⊎◌, ℕ, zero, suc, ◌+◌, ◌≤◌, Bool, true, false, cond, List, [], ◌∷◌, length, Option, Some, None, refl, sym, ◌∙◌, ap}
use Rattle.std.proofs.Common.{subst, arith, inl, inr, ⊎_elim}
use Rattle.std.specs.Prelude.{slice_get, slice_set, count_by, ◌==◌}
use Rattle.std.specs.List.{AllByRecursion}
use Rattle.std.proofs.lemmas.List.{length-set}
use Rattle.std.proofs.lemmas.List.Sums.{sum_by-cons}
use Rattle.std.proofs.lemmas.Bool.{eq-eqb, cases_eq}
use Rattle.std.proofs.lemmas.Option.{same_Some}
use Rattle.dp_model.specs.declared.row.Fact.{Fact}
use Rattle.dp_model.specs.declared.row.Fact.TheVariants.{Empty}
use Rattle.dp_model.specs.Buffers.{Number, same_number}
use Rattle.dp_model.specs.Packets.{Segment, Packet, refs}
use Rattle.dp_model.specs.Machine.{segments_held}
use Rattle.dp_model.specs.Groups.{is_in, group_size, share_of_group, belongs, buffers_of, GroupHolds, reshared}
use Rattle.dp_model.specs.Laws.References.{refs-cons, refs-append, refs_of, refs_set, refs_first}
use Rattle.dp_model.specs.Laws.Lists.{get_set_other, get_set_same}
use Rattle.dp_model.specs.Laws.Cases.{one_if, by_cases}
use Rattle.dp_model.specs.Laws.Stored.{same_is}
use Rattle.dp_model.specs.Laws.Groups.{size-cons, size_same, belongs_at, belongs_there, belongs_other, belongs_set, other_group, in_one, belongs_in}
use Rattle.dp_model.specs.Laws.Groups.{belongs_out}

-- ---- the registers of a group

-- none where no register belongs
pub size_none : (xs : List Fact) (g : ℕ) → ((i : ℕ) → belongs xs g i ≡ false) → group_size xs g ≡ 0
size_none [] g none = refl
size_none (x ∷ xs) g none =
    let here : one_if (is_in g x) ≡ 0 = ap one_if (none 0) in
    omega (arith, here, size-cons x xs g, size_none xs g (λ i. none (suc i)))

-- a register set
pub size_set : (facts : List Fact) (p : ℕ) (f f' : Fact) (g : ℕ) → slice_get facts p ≡ Some f → group_size (slice_set facts p f') g + one_if (is_in g f)
    ≡ group_size facts g + one_if (is_in g f')
size_set [] p f f' g e = cc
size_set (x ∷ facts) zero f f' g e =
    let same : one_if (is_in g x) ≡ one_if (is_in g f) = ap (λ y. one_if (is_in g y)) (same_Some x f e) in
    omega (arith, same, size-cons x facts g, size-cons f' facts g)
size_set (x ∷ facts) (suc p) f f' g e =
    omega (arith, size_set facts p f f' g e, size-cons x facts g, size-cons x (slice_set facts p f') g)

-- a register of the group, or none
pub member_or_none : (facts : List Fact) (g : ℕ) → ((i : ℕ) × (belongs facts g i ≡ true)) ⊎ ((i : ℕ) → belongs facts g i ≡ false)
member_or_none [] g = inr (λ i. refl)
member_or_none (f ∷ facts) g = go (is_in g f) refl (member_or_none facts g)
  where
    go : (b : Bool) → is_in g f ≡ b → ((i : ℕ) × (belongs facts g i ≡ true)) ⊎ ((i : ℕ) → belongs facts g i ≡ false) →
        ((i : ℕ) × (belongs (f ∷ facts) g i ≡ true)) ⊎ ((i : ℕ) → belongs (f ∷ facts) g i ≡ false)
    go true e later = inl (0, e)
    go false e (inl (i, h)) = inl (suc i, h)
    go false e (inr none) = inr each
      where
        each : (i : ℕ) → belongs (f ∷ facts) g i ≡ false
        each zero = e
        each (suc i) = none i

-- ---- the buffers of a packet
pub refs_counted : (k : Packet) (b : Number) → refs k b ≡ count_by (λ n. same_number n b) (buffers_of k)
refs_counted [] b = refl
refs_counted (s ∷ k) b =
    omega (arith, refs_counted k b, refs-cons s k b, sum_by-cons (λ n. cond (same_number n b) 1 0) s.buffer (buffers_of k))

pub refs_alike : (k t : Packet) (b : Number) → buffers_of k ≡ buffers_of t → refs k b ≡ refs t b
refs_alike k t b e = refs_counted k b ∙ (ap (λ bs. count_by (λ n. same_number n b) bs) e ∙ sym (refs_counted t b))

-- what holds of each buffer holds of a counted one
pub counted_at : (P : Number → Type 0) (bs : List Number) (b : Number) → AllByRecursion P bs → 1 ≤ count_by (λ n. same_number n b) bs → P b
counted_at P [] b all one = absurd (omega arith)
counted_at P (n ∷ bs) b all one = go (same_number n b) refl (counted_at P bs b all.1)
  where
    go : (t : Bool) → same_number n b ≡ t → (1 ≤ count_by (λ m. same_number m b) bs → P b) → P b
    go true e later = subst P (same_is n b e) all.0
    go false e later =
        let none : one_if (same_number n b) ≡ 0 = ap one_if e in
        later (omega (arith, one, none, sum_by-cons (λ m. cond (same_number m b) 1 0) n bs))

pub all_counted : (P : Number → Type 0) (k : Packet) → ((b : Number) → 1 ≤ refs k b → P b) → AllByRecursion P (buffers_of k)
all_counted P [] each = tt
all_counted P (s ∷ k) each = (each s.buffer (refs_first s k), all_counted P k (λ b one. each b (omega (arith, one, refs-cons s k b))))

-- ---- what a group says
module _ (live : List Segment) (facts : List Fact) (packets : List (Option Packet)) (g : ℕ) where
  -- the buffers of a register of the group have as many references as the group has registers
  pub group_refs : GroupHolds live facts packets g → (p : ℕ) (k : Packet) (b : Number) → belongs facts g p ≡ true → slice_get packets p ≡ Some (Some k) →
      1 ≤ refs k b → refs live b ≡ group_size facts g
  group_refs h p k b in_it at one =
      let (t, there, alike) = h.same p in_it in
      let same : t ≡ k = cc (at, there) in
      counted_at (λ b. refs live b ≡ group_size facts g) h.buffers b h.counted
      (subst (λ bs. 1 ≤ count_by (λ n. same_number n b) bs) alike (omega (arith, one, refs_counted t b, ap (λ x. refs x b) same)))

  -- each of its registers refers to them
  pub group_each : GroupHolds live facts packets g → (p : ℕ) (k : Packet) (b : Number) → belongs facts g p ≡ true → slice_get packets p ≡ Some (Some k) →
      1 ≤ refs k b → (i : ℕ) → belongs facts g i ≡ true → (t : Packet) × (slice_get packets i ≡ Some (Some t)) × (refs t b ≡ refs k b)
  group_each h p k b in_it at one i here =
      let (t, there, alike) = h.same i here in
      let (j, other, alike') = h.same p in_it in
      let same : j ≡ k = cc (at, other) in
      (t, there, refs_alike t k b (alike ∙ (sym alike' ∙ ap buffers_of same)))

  -- a group holds if one of its registers shows its registers and buffers
  pub group_from : (p : ℕ) (k : Packet) → ((i : ℕ) → belongs facts g i ≡ true → (t : Packet) × (slice_get packets i ≡ Some (Some t))
      × (buffers_of t ≡ buffers_of k)) → ((b : Number) → 1 ≤ refs k b → refs live b ≡ group_size facts g) → GroupHolds live facts packets g
  group_from p k each counted = record { buffers = buffers_of k; same = each; counted = all_counted (λ b. refs live b ≡ group_size facts g) k counted }

  -- a group without registers
  pub group_none : ((i : ℕ) → belongs facts g i ≡ false) → GroupHolds live facts packets g
  group_none none = record { buffers = []; same = λ p h. absurd (no p h); counted = tt }
    where
      no : (p : ℕ) → belongs facts g p ≡ true → ⊥
      no p h = let e : false ≡ true = sym (none p) ∙ h in cc

-- ---- a group has all references to its buffers
held-cons : (o : Option Packet) (packets : List (Option Packet)) (b : Number) → refs (segments_held (o ∷ packets)) b
    ≡ refs_of o b + refs (segments_held packets) b
held-cons None packets b = omega arith
held-cons (Some k) packets b = refs-append k (segments_held packets) b

-- each register of the group has a reference to the buffer
abbrev pub AllRefer : List Fact → List (Option Packet) → ℕ → Number → Type 0
AllRefer facts packets g b = (i : ℕ) → belongs facts g i ≡ true → (k : Packet) × (slice_get packets i ≡ Some (Some k)) × (1 ≤ refs k b)

-- so there are at least that many references
pub count_le : (facts : List Fact) (packets : List (Option Packet)) (g : ℕ) (b : Number) → AllRefer facts packets g b →
    group_size facts g ≤ refs (segments_held packets) b
count_le [] packets g b each = omega arith
count_le (f ∷ facts) [] g b each = go (is_in g f) refl (count_le facts [] g b (λ i h. let (k, at, one) = each (suc i) h in cc))
  where
    go : (t : Bool) → is_in g f ≡ t → group_size facts g ≤ 0 → group_size (f ∷ facts) g ≤ 0
    go true e le = let (k, at, one) = each 0 e in cc
    go false e le = let none : one_if (is_in g f) ≡ 0 = ap one_if e in omega (arith, le, none, size-cons f facts g)
count_le (f ∷ facts) (o ∷ packets) g b each = go (is_in g f) refl (count_le facts packets g b (λ i h. each (suc i) h))
  where
    go : (t : Bool) → is_in g f ≡ t → group_size facts g ≤ refs (segments_held packets) b → group_size (f ∷ facts) g ≤ refs (segments_held (o ∷ packets)) b
    go true e le =
        let (k, at, one) = each 0 e in
        let is : refs_of o b ≡ refs k b = ap (λ x. refs_of x b) (same_Some o (Some k) at) in
        let unit : one_if (is_in g f) ≡ 1 = ap one_if e in
        omega (arith, le, one, is, unit, size-cons f facts g, held-cons o packets b)
    go false e le =
        let none : one_if (is_in g f) ≡ 0 = ap one_if e in
        omega (arith, le, none, size-cons f facts g, held-cons o packets b)

apart : (facts : List Fact) (g i p : ℕ) → belongs facts g i ≡ true → belongs facts g p ≡ false → i ≢ p
apart facts g i p inside outside e = let wrong : true ≡ false = sym inside ∙ (ap (belongs facts g) e ∙ outside) in cc

-- another register's references come on top
pub others_le : (facts : List Fact) (packets : List (Option Packet)) (g : ℕ) (b : Number) (p : ℕ) (o : Option Packet) → AllRefer facts packets g b →
    belongs facts g p ≡ false → slice_get packets p ≡ Some o → group_size facts g + refs_of o b ≤ refs (segments_held packets) b
others_le facts packets g b p o each out there =
    let c = count_le facts (slice_set packets p None) g b (λ i h. let (k, at, one) = each i h in
    (k, get_set_other packets p i None (apart facts g i p h out) ∙ at, one)) in
    omega (arith, c, refs_set packets p o None b there)

-- each of its own registers has exactly one
pub own_le : (facts : List Fact) (packets : List (Option Packet)) (g : ℕ) (b : Number) (p : ℕ) (k : Packet) → AllRefer facts packets g b →
    belongs facts g p ≡ true → slice_get packets p ≡ Some (Some k) → group_size facts g + refs k b ≤ refs (segments_held packets) b + 1
own_le facts packets g b p k each in_it there =
    let (f, at_f, is_f) = belongs_there facts g p in_it in
    let rest = slice_set facts p Empty in
    let gone : belongs rest g p ≡ false = belongs_set facts g p f Empty at_f in
    let c = count_le rest (slice_set packets p None) g b (λ i h.
    let ne = apart rest g i p h gone in
    let (t, at, one) = each i (sym (belongs_other facts g p i Empty ne) ∙ h) in
    (t, get_set_other packets p i None ne ∙ at, one)) in
    let unit : one_if (is_in g f) ≡ 1 = ap one_if is_f in
    omega (arith, c, unit, size_set facts p f Empty g at_f, refs_set packets p (Some k) None b there)

-- ---- groups that stay: the register has a packet with the same buffers
abbrev pub HasAlike : List (Option Packet) → ℕ → Packet → Type 0
HasAlike packets i k = (t : Packet) × (slice_get packets i ≡ Some (Some t)) × (buffers_of t ≡ buffers_of k)

-- a group whose registers have the same buffers, with as many references to them
pub group_stays : (live live' : List Segment) (facts facts' : List Fact) (packets packets' : List (Option Packet)) (g h : ℕ) →
    GroupHolds live facts packets g → length facts' ≡ length facts → ((i : ℕ) → belongs facts' h i ≡ belongs facts g i) →
    ((i : ℕ) (k : Packet) → belongs facts g i ≡ true → slice_get packets i ≡ Some (Some k) → HasAlike packets' i k) →
    ((i : ℕ) (k : Packet) (b : Number) → belongs facts g i ≡ true → slice_get packets i ≡ Some (Some k) → 1 ≤ refs k b → refs live' b ≡ refs live b) →
    GroupHolds live' facts' packets' h
group_stays live live' facts facts' packets packets' g h holds long same alike refs_same = ⊎_elim some none (member_or_none facts g)
  where
    none : ((i : ℕ) → belongs facts g i ≡ false) → GroupHolds live' facts' packets' h
    none empty = group_none live' facts' packets' h (λ i. same i ∙ empty i)

    some : (i : ℕ) × (belongs facts g i ≡ true) → GroupHolds live' facts' packets' h
    some (p, in_it) =
        let (k, at, is) = holds.same p in_it in
        group_from live' facts' packets' h p k
        (λ i inside.
        let here : belongs facts g i ≡ true = sym (same i) ∙ inside in
        let (t, there, ist) = holds.same i here in
        let (u, there', isu) = alike i t here there in
        (u, there', isu ∙ (ist ∙ sym is)))
        (λ b one. refs_same p k b in_it at one ∙ (group_refs live facts packets g holds p k b in_it at one
        ∙ size_same facts facts' g h (sym long) (λ i. sym (same i))))

-- ---- who has references to the buffers of a group
module _ (live : List Segment) (facts : List Fact) (packets : List (Option Packet)) (g : ℕ) where
  -- all that is held is live
  abbrev pub AreLive : Type 0
  AreLive = (b : Number) → refs (segments_held packets) b ≤ refs live b

  all_refer : GroupHolds live facts packets g → (i : ℕ) (k : Packet) (b : Number) → belongs facts g i ≡ true → slice_get packets i ≡ Some (Some k) →
      1 ≤ refs k b → AllRefer facts packets g b
  all_refer h i k b inside at one j here =
      let (t, there, same) = group_each live facts packets g h i k b inside at one j here in
      (t, there, omega (arith, one, same))

  -- another register has no reference
  pub other_refs : GroupHolds live facts packets g → AreLive → (p : ℕ) (o : Option Packet) → belongs facts g p ≡ false → slice_get packets p ≡ Some o →
      (i : ℕ) (k : Packet) (b : Number) → belongs facts g i ≡ true → slice_get packets i ≡ Some (Some k) → 1 ≤ refs k b → refs_of o b ≡ 0
  other_refs h are p o out there i k b inside at one =
      omega (arith, are b, group_refs live facts packets g h i k b inside at one, others_le facts packets g b p o (all_refer h i k b inside at one) out there)

  -- and each of its own has one
  pub own_refs : GroupHolds live facts packets g → AreLive → (p : ℕ) (j : Packet) → belongs facts g p ≡ true → slice_get packets p ≡ Some (Some j) →
      (i : ℕ) (k : Packet) (b : Number) → belongs facts g i ≡ true → slice_get packets i ≡ Some (Some k) → 1 ≤ refs k b → refs j b ≡ 1
  own_refs h are p j here there i k b inside at one =
      let (t, there', same) = group_each live facts packets g h i k b inside at one p here in
      let is : t ≡ j = cc (there, there') in
      omega (
        arith,
        one,
        same,
        ap (λ x. refs x b) is,
        are b,
        group_refs live facts packets g h i k b inside at one,
        own_le facts packets g b p j (all_refer h i k b inside at one) here there,
      )

-- ---- setting a register to a fact of the same groups and a packet with the same buffers
pub groups_set : (live live' : List Segment) (facts : List Fact) (packets : List (Option Packet)) (p : ℕ) (old f : Fact) (o : Option Packet) →
    ((g : ℕ) → GroupHolds live facts packets g) → slice_get facts p ≡ Some old → ((g : ℕ) → is_in g f ≡ is_in g old) →
    ((g : ℕ) (k : Packet) → is_in g old ≡ true → slice_get packets p ≡ Some (Some k) → (t : Packet) × (o ≡ Some t) × (buffers_of t ≡ buffers_of k)) →
    ((g i : ℕ) (k : Packet) (b : Number) → belongs facts g i ≡ true → slice_get packets i ≡ Some (Some k) → 1 ≤ refs k b → refs live' b ≡ refs live b) →
    (g : ℕ) → GroupHolds live' (slice_set facts p f) (slice_set packets p o) g
groups_set live live' facts packets p old f o holds there groups like same g =
    group_stays live live' facts (slice_set facts p f) packets (slice_set packets p o) g g (holds g) (length-set facts p f)
    (λ i. ⊎_elim
    (λ is. ap (belongs (slice_set facts p f) g) is ∙ (belongs_set facts g p old f there
    ∙ (groups g ∙ (sym (belongs_at facts g p old there) ∙ ap (belongs facts g) (sym is)))))
    (λ ne. belongs_other facts g p i f ne)
    (cases_eq i p))
    (λ i k inside at. ⊎_elim
    (λ is.
    let at_p : slice_get packets p ≡ Some (Some k) = ap (slice_get packets) (sym is) ∙ at in
    let inside_p : is_in g old ≡ true = sym (belongs_at facts g p old there) ∙ (ap (belongs facts g) (sym is) ∙ inside) in
    let (t, e, alike) = like g k inside_p at_p in
    (t, ap (slice_get (slice_set packets p o)) is ∙ (get_set_same packets p o (Some k) at_p ∙ ap Some e), alike))
    (λ ne. (k, get_set_other packets p i o ne ∙ at, refl))
    (cases_eq i p))
    (same g)

-- ---- freeing a packet: its register leaves the group
pub groups_freed : (live live' : List Segment) (facts : List Fact) (packets : List (Option Packet)) (p : ℕ) (k : Packet) →
    ((g : ℕ) → GroupHolds live facts packets g) → ((b : Number) → refs (segments_held packets) b ≤ refs live b) → slice_get packets p ≡ Some (Some k) →
    (f : Fact) → slice_get facts p ≡ Some f → ((b : Number) → refs live' b + refs k b ≡ refs live b) →
    (g : ℕ) → GroupHolds live' (slice_set facts p Empty) (slice_set packets p None) g
groups_freed live live' facts packets p k holds are there f at_f gone g = go (is_in g f) refl
  where
    out_now : belongs (slice_set facts p Empty) g p ≡ false
    out_now = belongs_set facts g p f Empty at_f

    still : (i : ℕ) → belongs (slice_set facts p Empty) g i ≡ true → (i ≢ p) × (belongs facts g i ≡ true)
    still i inside =
        let ne = apart (slice_set facts p Empty) g i p inside out_now in
        (ne, sym (belongs_other facts g p i Empty ne) ∙ inside)

    some : is_in g f ≡ true → (i : ℕ) × (belongs (slice_set facts p Empty) g i ≡ true) → GroupHolds live' (slice_set facts p Empty) (slice_set packets p None) g
    some e (i, inside) =
        let (ne, before) = still i inside in
        let (j, at, alike) = (holds g).same i before in
        let was : belongs facts g p ≡ true = belongs_at facts g p f at_f ∙ e in
        group_from live' (slice_set facts p Empty) (slice_set packets p None) g i j
        (λ x inside'.
        let (ne', before') = still x inside' in
        let (t, at', alike') = (holds g).same x before' in
        (t, get_set_other packets p x None ne' ∙ at', alike' ∙ sym alike))
        (λ b one.
        let unit : one_if (is_in g f) ≡ 1 = ap one_if e in
        omega (
          arith,
          unit,
          gone b,
          own_refs live facts packets g (holds g) are p k was there i j b before at one,
          group_refs live facts packets g (holds g) i j b before at one,
          size_set facts p f Empty g at_f,
        ))

    go : (t : Bool) → is_in g f ≡ t → GroupHolds live' (slice_set facts p Empty) (slice_set packets p None) g
    go true e = ⊎_elim (some e) (group_none live' (slice_set facts p Empty) (slice_set packets p None) g) (member_or_none (slice_set facts p Empty) g)
    go false e =
        let out : belongs facts g p ≡ false = belongs_at facts g p f at_f ∙ e in
        group_stays live live' facts (slice_set facts p Empty) packets (slice_set packets p None) g g (holds g) (length-set facts p Empty)
        (λ i. ⊎_elim
        (λ is. ap (belongs (slice_set facts p Empty) g) is ∙ (out_now ∙ (sym out ∙ ap (belongs facts g) (sym is))))
        (λ ne. belongs_other facts g p i Empty ne)
        (cases_eq i p))
        (λ i t inside at. (t, get_set_other packets p i None (apart facts g i p inside out) ∙ at, refl))
        (λ i t b inside at one. omega (arith, gone b, other_refs live facts packets g (holds g) are p (Some k) out there i t b inside at one))

-- ---- the registers of a group get another share
pub same_group : (m x : ℕ) → m ≡ x → (share_of_group m == share_of_group x) ≡ true
same_group m x e = eq-eqb (8 + m) (8 + x) (ap share_of_group e)

pub length_reshared : (g share : ℕ) (facts : List Fact) → length (reshared g share facts) ≡ length facts
length_reshared g share [] = refl
length_reshared g share (f ∷ facts) = ap suc (length_reshared g share facts)

module _ (live : List Segment) (facts : List Fact) (packets : List (Option Packet)) where
  -- other groups stay as they are
  stays_beside : (g x share : ℕ) → x ≢ g → (share == share_of_group x) ≡ false → GroupHolds live facts packets x →
      GroupHolds live (reshared g share facts) packets x
  stays_beside g x share ne other h =
      group_stays live live facts (reshared g share facts) packets packets x x h (length_reshared g share facts)
      (λ i. by_cases (belongs facts g i)
      (λ inside. belongs_in facts x g share i inside ∙ (other ∙ sym (in_one facts g x i ne inside)))
      (λ outside. belongs_out facts x g share i outside))
      (λ i k inside at. (k, at, refl)) (λ i k b inside at one. refl)

  -- a group that no register belongs to any more
  is_gone : (g share : ℕ) → (share == share_of_group g) ≡ false → GroupHolds live (reshared g share facts) packets g
  is_gone g share other = group_none live (reshared g share facts) packets g (λ i. by_cases (belongs facts g i)
      (λ inside. belongs_in facts g g share i inside ∙ other)
      (λ outside. belongs_out facts g g share i outside ∙ outside))

  -- a group is dissolved
  pub groups_gone : (g share : ℕ) → ((x : ℕ) → (share == share_of_group x) ≡ false) → ((x : ℕ) → GroupHolds live facts packets x) →
      (x : ℕ) → GroupHolds live (reshared g share facts) packets x
  groups_gone g share none holds x = ⊎_elim
      (λ is. subst (GroupHolds live (reshared g share facts) packets) (sym is) (is_gone g share (none g)))
      (λ ne. stays_beside g x share ne (none x) (holds x))
      (cases_eq x g)

  -- a group is renamed to a name that no register has
  pub groups_renamed : (g m : ℕ) → (m ≡ g) ⊎ ((i : ℕ) → belongs facts m i ≡ false) → ((x : ℕ) → GroupHolds live facts packets x) →
      (x : ℕ) → GroupHolds live (reshared g (share_of_group m) facts) packets x
  groups_renamed g m free holds x = ⊎_elim
      (λ is. subst (GroupHolds live (reshared g (share_of_group m) facts) packets) (sym is) named)
      (λ ne. ⊎_elim
      (λ is. subst (GroupHolds live (reshared g (share_of_group m) facts) packets) (sym is)
      (is_gone g (share_of_group m) (other_group m g (λ e. ne (is ∙ sym e)))))
      (λ apart. stays_beside g x (share_of_group m) apart (other_group m x (λ e. ne (sym e))) (holds x))
      (cases_eq x g))
      (cases_eq x m)
    where
      named : GroupHolds live (reshared g (share_of_group m) facts) packets m
      named =
          group_stays live live facts (reshared g (share_of_group m) facts) packets packets g m (holds g) (length_reshared g (share_of_group m) facts)
          (λ i. by_cases (belongs facts g i)
          (λ inside. belongs_in facts m g (share_of_group m) i inside ∙ (same_group m m refl ∙ sym inside))
          (λ outside. belongs_out facts m g (share_of_group m) i outside ∙ (⊎_elim (λ e. ap (λ n. belongs facts n i) e) (λ none. none i ∙ sym outside) free)))
          (λ i k inside at. (k, at, refl)) (λ i k b inside at one. refl)

-- ---- a clone joins the groups of its source
pub groups_cloned : (live live' : List Segment) (facts : List Fact) (packets : List (Option Packet)) (p q : ℕ) (old f : Fact) (k k' : Packet) →
    ((g : ℕ) → GroupHolds live facts packets g) → ((b : Number) → refs (segments_held packets) b ≤ refs live b) → slice_get facts p ≡ Some old →
    ((g : ℕ) → is_in g old ≡ false) → slice_get facts q ≡ Some f → slice_get packets p ≡ Some None → slice_get packets q ≡ Some (Some k) →
    buffers_of k' ≡ buffers_of k → ((b : Number) → refs live' b ≡ refs live b + refs k b) →
    (g : ℕ) → GroupHolds live' (slice_set facts p f) (slice_set packets p (Some k')) g
groups_cloned live live' facts packets p q old f k k' holds are at_p none at_q empty there alike more g = by_cases (is_in g f) joins beside
  where
    new : belongs (slice_set facts p f) g p ≡ is_in g f
    new = belongs_set facts g p old f at_p

    out : belongs facts g p ≡ false
    out = belongs_at facts g p old at_p ∙ none g

    joins : is_in g f ≡ true → GroupHolds live' (slice_set facts p f) (slice_set packets p (Some k')) g
    joins e =
        let source : belongs facts g q ≡ true = belongs_at facts g q f at_q ∙ e in
        let ne = apart facts g q p source out in
        let in_new : one_if (is_in g f) ≡ 1 = ap one_if e in
        let in_old : one_if (is_in g old) ≡ 0 = ap one_if (none g) in
        group_from live' (slice_set facts p f) (slice_set packets p (Some k')) g q k
        (λ i inside. ⊎_elim
        (λ is. (k', ap (slice_get (slice_set packets p (Some k'))) is ∙ get_set_same packets p (Some k') None empty, alike))
        (λ ne'.
        let (t, at, same) = (holds g).same i (sym (belongs_other facts g p i f ne') ∙ inside) in
        let (u, at', same') = (holds g).same q source in
        let is : u ≡ k = cc (at', there) in
        (t, get_set_other packets p i (Some k') ne' ∙ at, same ∙ (sym same' ∙ ap buffers_of is)))
        (cases_eq i p))
        (λ b one. omega (
          arith,
          more b,
          in_new,
          in_old,
          size_set facts p old f g at_p,
          group_refs live facts packets g (holds g) q k b source there one,
          own_refs live facts packets g (holds g) are q k source there q k b source there one,
        ))

    beside : is_in g f ≡ false → GroupHolds live' (slice_set facts p f) (slice_set packets p (Some k')) g
    beside e =
        group_stays live live' facts (slice_set facts p f) packets (slice_set packets p (Some k')) g g (holds g) (length-set facts p f)
        (λ i. ⊎_elim
        (λ is. ap (belongs (slice_set facts p f) g) is ∙ (new ∙ (e ∙ (sym out ∙ ap (belongs facts g) (sym is)))))
        (λ ne. belongs_other facts g p i f ne)
        (cases_eq i p))
        (λ i t inside at. (t, get_set_other packets p i (Some k') (apart facts g i p inside out) ∙ at, refl))
        (λ i t b inside at one. omega (
          arith,
          more b,
          other_refs live facts packets g (holds g) are q (Some k) (belongs_at facts g q f at_q
              ∙ e) there i t b inside at one,
        ))

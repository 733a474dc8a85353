-- Rows whose groups change while packets stay.
use Rattle.std.proofs.Common.{◌≡◌, ◌⊎◌, ℕ, suc, ◌+◌, ◌≤◌, Bool, true, false, cond, List, [], ◌∷◌, Option, Some, None, refl, sym, ◌∙◌, ap, subst, arith}
use Rattle.std.specs.Prelude.{slice_get, ◌==◌}
use Rattle.std.specs.List.{AllByRecursion, AllZip}
use Rattle.std.specs.Option.{option_map_or}
use Rattle.std.proofs.lemmas.Bool.{eqb-true}
use Rattle.dp_model.specs.declared.env.PoolSpec.{PoolSpec}
use Rattle.dp_model.specs.declared.row.Fact.{Fact}
use Rattle.dp_model.specs.declared.row.Fact.TheVariants.{Empty, Held}
use Rattle.dp_model.specs.declared.row.Row.{Row}
use Rattle.dp_model.specs.Packets.{Segment, Packet, refs, IsSole}
use Rattle.dp_model.specs.Groups.{is_in, group_size, least_member, share_of_group, belongs, buffers_of, GroupHolds, reshared_fact, reshared}
use Rattle.dp_model.specs.Rows.{group_at, with_shares, dissolved, renamed}
use Rattle.dp_model.specs.Machine.{Setting, State, live, Holds}
use Rattle.dp_model.specs.Meaning.{HasShare, FactHolds, Known}
use Rattle.dp_model.specs.Laws.Groups.{sole_no_group, loose_no_group, dissolved_is, least_belongs}
use Rattle.dp_model.proofs.Sharing.{groups_gone, groups_renamed}
use Rattle.dp_model.specs.Laws.Cases.{by_cases}
use Rattle.dp_model.specs.Laws.References.{says_nothing, says_each}

-- a group's share says nothing of one packet alone
far_shared : (live : List Segment) (n : ℕ) (k : Packet) → 3 ≤ n → HasShare live n k
far_shared live n k le = record { first = λ e. absurd (omega (arith, e)); each = λ e. absurd (omega (arith, e)) }

pub of_group : (live : List Segment) (m : ℕ) (k : Packet) → HasShare live (share_of_group m) k
of_group live m k = far_shared live (8 + m) k (omega arith)

-- ---- the registers of a group get another share
fact_reshared : (pools : List PoolSpec) (live : List Segment) (g share : ℕ) (f : Fact) (o : Option Packet) → FactHolds pools live f o →
    ((k : Packet) → is_in g f ≡ true → o ≡ Some k → HasShare live share k) → FactHolds pools live (reshared_fact g share f) o
fact_reshared pools live g share Empty o h each = h
fact_reshared pools live g share (Held old head tail first last segs) None h each = h
fact_reshared pools live g share (Held old head tail first last segs) (Some k) m each =
    record { some = m.some; share = shares (old == share_of_group g) refl; head = m.head; tail = m.tail; first = m.first; last = m.last; segs = m.segs }
  where
    shares : (b : Bool) → (old == share_of_group g) ≡ b → HasShare live (cond (old == share_of_group g) share old) k
    shares true e = subst (λ t. HasShare live (cond t share old) k) (sym e) (each k e refl)
    shares false e = subst (λ t. HasShare live (cond t share old) k) (sym e) m.share

facts_reshared : (pools : List PoolSpec) (live : List Segment) (g share : ℕ) (facts : List Fact) (packets : List (Option Packet)) →
    AllZip (FactHolds pools live) facts packets → ((i : ℕ) (k : Packet) → belongs facts g i ≡ true → slice_get packets i ≡ Some (Some k) →
    HasShare live share k) → AllZip (FactHolds pools live) (reshared g share facts) packets
facts_reshared pools live g share [] packets h each = h
facts_reshared pools live g share (f ∷ facts) [] h each = h
facts_reshared pools live g share (f ∷ facts) (o ∷ packets) h each = (
  fact_reshared pools live g share f o h.0 (λ k inside e. each 0 k inside (ap Some e)),
  facts_reshared pools live g share facts packets h.1 (λ i k. each (suc i) k),
)

pub known_reshared : (c : Setting) (row : Row) (s : State) (g share : ℕ) → Known c row s →
    ((i : ℕ) (k : Packet) → belongs row.facts g i ≡ true → Holds s i k → HasShare (live s) share k) →
    ((x : ℕ) → GroupHolds (live s) (reshared g share row.facts) s.packets x) → Known c (with_shares row g share) s
known_reshared c row s g share known shares groups =
    let r = known.row_holds in
    record {
      row_holds = record {
        is_live = r.is_live;
        facts = facts_reshared c.env.pools (live s) g share row.facts s.packets r.facts shares;
        groups = groups;
        bounds = r.bounds;
      };
      world_holds = known.world_holds;
      tables = known.tables;
    }

-- ---- a group is dissolved
pub known_dissolved : (c : Setting) (row : Row) (s : State) (p : ℕ) → Known c row s → Known c (dissolved row p) s
known_dissolved c row s p known = go (group_at row p) refl
  where
    go : (o : Option ℕ) → group_at row p ≡ o → Known c (dissolved row p) s
    go None e = subst (λ r. Known c r s) (sym (dissolved_is row p None e)) known
    go (Some g) e =
        subst (λ r. Known c r s) (sym (dissolved_is row p (Some g) e))
        (known_reshared c row s g 0 known (λ i k inside at. says_nothing) (groups_gone (live s) row.facts s.packets g 0 loose_no_group known.row_holds.groups))

-- ---- names: what remains of a group gets its least register's name, or that of a register that belongs to no group
pub known_renamed : (c : Setting) (row : Row) (s : State) (g : ℕ) → Known c row s →
    ((m : ℕ) → belongs row.facts g m ≡ true → (m ≡ g) ⊎ ((i : ℕ) → belongs row.facts m i ≡ false)) → Known c (renamed row g) s
known_renamed c row s g known free = by_cases (group_size row.facts g == 1) alone more
  where
    h : GroupHolds (live s) row.facts s.packets g
    h = known.row_holds.groups g

    -- a single one is sole
    sole : group_size row.facts g ≡ 1 → (i : ℕ) (k : Packet) → belongs row.facts g i ≡ true → Holds s i k → IsSole (live s) k
    sole one i k inside at =
        let (t, there, alike) = h.same i inside in
        let same : t ≡ k = cc (at, there) in
        segments k (subst (AllByRecursion (λ b. refs (live s) b ≡ 1)) (sym alike
        ∙ ap buffers_of same) (subst (λ n. AllByRecursion (λ b. refs (live s) b ≡ n) h.buffers) one h.counted))
      where
        segments : (k : Packet) → AllByRecursion (λ b. refs (live s) b ≡ 1) (buffers_of k) → IsSole (live s) k
        segments [] all = tt
        segments (x ∷ k) all = (all.0, segments k all.1)

    alone : (group_size row.facts g == 1) ≡ true → Known c (renamed row g) s
    alone e =
        subst (λ n. Known c (with_shares row g n) s) (sym (ap (λ b. cond b 2 (option_map_or share_of_group (least_member row.facts g) 0)) e))
        (known_reshared c row s g 2 known (λ i k inside at. says_each (sole (eqb-true (group_size row.facts g) 1 e) i k inside at))
        (groups_gone (live s) row.facts s.packets g 2 sole_no_group known.row_holds.groups))

    several : (o : Option ℕ) → least_member row.facts g ≡ o → Known c (with_shares row g (option_map_or share_of_group o 0)) s
    several None e =
        known_reshared c row s g 0 known (λ i k inside at. says_nothing)
        (groups_gone (live s) row.facts s.packets g 0 loose_no_group known.row_holds.groups)
    several (Some m) e =
        known_reshared c row s g (share_of_group m) known (λ i k inside at. of_group (live s) m k)
        (groups_renamed (live s) row.facts s.packets g m (free m (least_belongs row.facts g m e)) known.row_holds.groups)

    more : (group_size row.facts g == 1) ≡ false → Known c (renamed row g) s
    more e =
        subst (λ n. Known c (with_shares row g n) s) (sym (ap (λ b. cond b 2 (option_map_or share_of_group (least_member row.facts g) 0)) e))
        (subst (λ o. Known c (with_shares row g (option_map_or share_of_group o 0)) s) refl (several (least_member row.facts g) refl))

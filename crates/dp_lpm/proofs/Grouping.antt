-- The groups of a table are those that its deep routes need.
use Rattle.std.proofs.Common.{◌≡◌, ◌≢◌, ℕ, ◌+◌, ◌-◌, ◌<◌, ◌⊎◌, List, length, Some, None, ap, arith, ⊎_elim, inl, inr, length-set}
use Rattle.std.specs.Prelude.{nat_lt, slice_index, slice_set}
use Rattle.std.proofs.lemmas.Bool.{cases_eq}
use Rattle.dp_model.specs.Prefixes.{Route}
use Rattle.dp_lpm.specs.declared.table.Table.{Table}
use Rattle.dp_lpm.specs.Tables.{IsTable, group_at, Opened, Closed}
use Rattle.dp_lpm.specs.Kept.{deep_count, Grouped}
use Rattle.dp_lpm.proofs.Groups.{index_set_same, index_set_other}
use Rattle.dp_lpm.proofs.Counting.{groups_same, groups_change, used_set}

-- routes with the same deep ones
pub grouped_same : (t : Table) (old new : List Route) → Grouped t old → ((i : ℕ) → deep_count new i ≡ deep_count old i) → Grouped t new
grouped_same t old new is same = record {
  grouped = grind (arith, is.grouped);
  plain = grind (arith, is.plain);
  needed = grind (arith, groups_same 16777216 old new (λ i _. ap (nat_lt 0) (same i)));
}

-- the same groups and counts
pub grouped_table : (t t' : Table) (routes : List Route) → Grouped t routes → ((i : ℕ) → group_at t' i ≡ group_at t i) → t'.counts.items ≡ t.counts.items →
    Grouped t' routes
grouped_table t t' routes is groups counts = record {
  grouped = grind arith;
  plain = grind arith;
  needed = grind arith;
}

-- another count of the group of some first bits, which have no group if it is 0
module _ (t t' : Table) (old new : List Route) (first g n : ℕ) (is : Grouped t old) (there : g < length t.counts.items) (small : first < 16777216)
    (apart : (i : ℕ) → group_at t i ≡ Some g → i ≡ first) (was : slice_index t.counts.items g ≡ deep_count old first) (now : n ≡ deep_count new first)
    (same : (i : ℕ) → i ≢ first → deep_count new i ≡ deep_count old i) (others : (i : ℕ) → i ≢ first → group_at t' i ≡ group_at t i)
    (here : (group_at t' first ≡ Some g) ⊎ ((group_at t' first ≡ None) × (n ≡ 0))) (counts : t'.counts.items ≡ slice_set t.counts.items g n) where
  grouped_change : Grouped t' new
  grouped_change = record {
    grouped = λ i h named. rw counts (grind (arith, index_set_same t.counts.items g n there, index_set_other t.counts.items g h n));
    plain = grind arith;
    needed = let change = rw (← was, ← now) at (groups_change 16777216 first old new small same) in
        let set = used_set t.counts.items g n there in rw counts (omega (arith, is.needed));
  }

-- one deep route more, after its first bits are opened
pub grouped_opened : (t t' : Table) (old new : List Route) (first : ℕ) → IsTable t → Grouped t old → Opened first t t' → first < 16777216 →
    deep_count new first ≡ deep_count old first + 1 → ((i : ℕ) → i ≢ first → deep_count new i ≡ deep_count old i) → Grouped t' new
grouped_opened t t' old new first table is opened small here others =
    let was : slice_index t.counts.items opened.group ≡ deep_count old first = grind (arith, opened.before, is.grouped, is.plain) in
    let there : opened.group < length t.counts.items = rw (opened.counts, length-set) at (opened.table.named first opened.group opened.named) in
    grouped_change t t' old new first opened.group (slice_index t.counts.items opened.group + 1) is there small
    (λ i named. ⊎_elim (λ e. table.apart i first opened.group named e) (λ (none, zero). absurd (omega (arith, table.used i opened.group named))) opened.before)
    was (omega arith) others opened.others (inl opened.named) opened.counts

-- one deep route fewer, after its first bits are closed
pub grouped_closed : (t t' : Table) (old new : List Route) (first : ℕ) → IsTable t → Grouped t old → Closed first t t' → first < 16777216 →
    deep_count old first ≡ deep_count new first + 1 → ((i : ℕ) → i ≢ first → deep_count new i ≡ deep_count old i) → Grouped t' new
grouped_closed t t' old new first table is closed small here others =
    let was = is.grouped first closed.group closed.before in
    grouped_change t t' old new first closed.group (slice_index t.counts.items closed.group - 1) is (table.named first closed.group closed.before) small
    (λ i named. table.apart i first closed.group named closed.before) was (omega arith) others closed.others
    (⊎_elim (λ one. inr (closed.last one, omega arith)) (λ more. inl (closed.more (omega arith))) (cases_eq (slice_index t.counts.items closed.group) 1))
    closed.counts

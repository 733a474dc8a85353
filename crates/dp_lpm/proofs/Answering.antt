-- Overwriting the entries of a prefix makes them follow from the changed routes.
use Rattle.std.proofs.Common.{◌≡◌, ◌≢◌, ℕ, ◌+◌, ◌-◌, ◌^◌, ◌≤◌, List, Option, arith, ⊎_elim}
use Rattle.std.specs.Option.{option_or}
use Rattle.std.proofs.lemmas.Bool.{cases_eq, cases_lt}
use Rattle.dp_model.specs.Prefixes.{Route}
use Rattle.dp_lpm.specs.declared.ruled_table.RuledTable.{RuledTable}
use Rattle.dp_lpm.specs.Routes.{prefix_of, ChangesAt, deepest_within}
use Rattle.dp_lpm.specs.Rules.{entry_of}
use Rattle.dp_lpm.specs.Tables.{entry_for, start_of, Overwritten}
use Rattle.dp_lpm.specs.Kept.{routes_in, Keeps}
use Rattle.dp_lpm.proofs.Deepest.{outside_same, inside_becomes, entry_cond}
use Rattle.dp_lpm.proofs.Blocks.{same_prefix}
use Rattle.dp_lpm.proofs.Ranges.{in_range, range_low, range_high}
use Rattle.dp_lpm.proofs.Grouping.{grouped_table}

-- the entries of all addresses, once those of the prefix are overwritten
overwritten_answers : (before after : List Route) (old new : RuledTable) (ip depth : ℕ) (route : Option Route) →
    ChangesAt before after (prefix_of ip depth) depth route → 1 ≤ depth → depth ≤ 32 →
    ((a : ℕ) → entry_for old.table a ≡ entry_of (deepest_within 32 before a)) →
    Overwritten (start_of ip depth) (2 ^ (32 - depth)) depth (entry_of (option_or route (deepest_within (depth - 1) before ip))) old.table new.table →
    (a : ℕ) → entry_for new.table a ≡ entry_of (deepest_within 32 after a)
overwritten_answers before after old new ip depth route changes some most answers so a = ⊎_elim inside outside
    (cases_eq (prefix_of a depth) (prefix_of ip depth))
  where
    inside : prefix_of a depth ≡ prefix_of ip depth → entry_for new.table a ≡ entry_of (deepest_within 32 after a)
    inside same =
        rw (
          so.inside a (range_low ip depth a same) (range_high ip depth a same),
          answers a,
          inside_becomes before after (prefix_of ip depth) depth route changes a 32 same some most,
          entry_cond,
          same_prefix before a ip depth (depth - 1) most (omega arith) same,
        )

    outside : prefix_of a depth ≢ prefix_of ip depth → entry_for new.table a ≡ entry_of (deepest_within 32 after a)
    outside other =
        let stays : entry_for new.table a ≡ entry_for old.table a = ⊎_elim (so.below a) (λ le. ⊎_elim (λ lt. absurd (other (in_range ip depth a le lt)))
        (so.above a) (cases_lt a (start_of ip depth + 2 ^ (32 - depth)))) (cases_lt a (start_of ip depth)) in
        rw (stays, answers a, outside_same before after (prefix_of ip depth) depth route changes a 32 other)

pub overwritten_keeps : (before counted : List Route) (old new : RuledTable) (ip depth : ℕ) (route : Option Route) → Keeps before counted old →
    ChangesAt before (routes_in old) (prefix_of ip depth) depth route → 1 ≤ depth → depth ≤ 32 →
    Overwritten (start_of ip depth) (2 ^ (32 - depth)) depth (entry_of (option_or route (deepest_within (depth - 1) before ip))) old.table new.table →
    new.rules ≡ old.rules → new.max_rules ≡ old.max_rules → Keeps (routes_in new) counted new
overwritten_keeps before counted old new ip depth route kept changes some most so rules max = record {
  rules = rw (rules, max) kept.rules;
  table = so.table;
  answers = rw rules (overwritten_answers before (routes_in old) old new ip depth route changes some most kept.answers so);
  groups = grouped_table old.table new.table counted kept.groups so.groups so.counts;
}

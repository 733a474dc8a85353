-- Adding a rule, and overwriting the entries.
use Rattle.std.proofs.Common.{◌≡◌, ℕ, ◌-◌, ◌/◌, ◌^◌, ◌<◌, ◌≤◌, Some, sym, ap}
use Rattle.dp_lpm.specs.declared.cell.TableEntry.TheVariants.{Hop}
use Rattle.dp_lpm.specs.declared.rule.Rule.{Rule}
use Rattle.dp_lpm.specs.declared.ruled_table.RuledTable.{RuledTable}
use Rattle.dp_lpm.specs.Routes.{IsRoute, prefix_of}
use Rattle.dp_lpm.specs.Rules.{route_of, routes_of}
use Rattle.dp_lpm.specs.Tables.{group_at, start_of, Overwritten}
use Rattle.dp_lpm.specs.Kept.{routes_in, IsKept, TakesIn}
use Rattle.dp_lpm.proofs.Ranges.{prefix_small, deep_first}
use Rattle.dp_lpm.proofs.Answering.{overwritten_keeps}

-- the rule of an add
abbrev pub rule_of : ℕ → ℕ → ℕ → Rule
rule_of prefix depth hop = record { prefix = prefix; depth = depth; hop = hop }

pub rule_is : (ip depth hop prefix : ℕ) → prefix ≡ prefix_of ip depth → ip < 4294967296 → 1 ≤ depth → depth ≤ 32 → hop ≤ 16777215 →
    IsRoute (route_of (rule_of prefix depth hop))
rule_is ip depth hop prefix is small some most low = record {
  some = some;
  most = most;
  prefix = rw is (prefix_small ip depth small most);
  hop = low;
}

pub added_group : (old new : RuledTable) (ip depth hop prefix : ℕ) → prefix ≡ prefix_of ip depth → depth ≤ 32 →
    TakesIn old new (route_of (rule_of prefix depth hop)) → 24 < depth → (g : ℕ) × (group_at new.table (ip / 256) ≡ Some g)
added_group old new ip depth hop prefix is most takes deep = rw (is, deep_first ip depth deep most) at (takes.group deep)

pub added_keeps : (old mid new : RuledTable) (ip depth hop prefix : ℕ) → prefix ≡ prefix_of ip depth → 1 ≤ depth → depth ≤ 32 →
    TakesIn old mid (route_of (rule_of prefix depth hop)) → Overwritten (start_of ip depth) (2 ^ (32 - depth)) depth (Hop hop depth) mid.table new.table →
    new.rules ≡ mid.rules → new.max_rules ≡ mid.max_rules → IsKept new
added_keeps old mid new ip depth hop prefix is some most takes overwritten rules max =
    rw (sym (ap (λ v. routes_of v.items) rules)) at
    (overwritten_keeps (routes_in old) (routes_in mid) mid new ip depth (Some (route_of (rule_of prefix depth hop))) takes.kept
    (rw (← is) takes.puts.changes) some most overwritten rules max)

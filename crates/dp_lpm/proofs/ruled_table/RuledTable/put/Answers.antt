-- A new rule has room, and a group for its first bits; or it is refused.
use Rattle.std.proofs.Common.{◌≡◌, arith, inl, inr}
use Rattle.std.proofs.lemmas.List.{length-map}
use Rattle.dp_lpm.specs.Rules.{route_of}
use Rattle.dp_lpm.specs.Kept.{routes_in, first_of}
use Rattle.dp_lpm.specs.declared.ruled_table.RuledTable.{RuledTable}
use Rattle.dp_lpm.proofs.Counting.{deep_count_few}
use Rattle.dp_lpm.proofs.Growing.{grown, full, first_small, Makes}
use Rattle.dp_lpm.proofs.ruled_table.RuledTable.put.Goals.{else-rule-gt-FIRST_BITS-via-then-rule-gt-FIRST_BITS+else-not-open}
use Rattle.dp_lpm.proofs.ruled_table.RuledTable.put.Goals.{else-rule-gt-FIRST_BITS-via-else-rule-gt-FIRST_BITS}
use Rattle.dp_lpm.proofs.ruled_table.RuledTable.put.Goals as goal

pub open-requires-clause-there : goal.open-requires-clause-there
open-requires-clause-there c = first_small (route_of c.args.rule) c.requires.rule c.if-rule-gt-FIRST_BITS.true

pub open-requires-clause-room : goal.open-requires-clause-room
open-requires-clause-room c g named =
    let is = c.requires.kept.groups.grouped (first_of (route_of c.args.rule)) g named in
    let few = deep_count_few (routes_in c.args.self.now) (first_of (route_of c.args.rule)) in
    let len = length-map c.args.self.now.rules.items route_of in
    omega (arith, is, few, len, c.requires.kept.rules.most, c.len.ensures)

pub returns-then-not-open : goal.returns-then-not-open
returns-then-not-open c = (
  full c.args.self.now c.open.new.self c.args.rule c.requires.kept c.requires.rule (omega arith) c.if-rule-gt-FIRST_BITS.true c.if-not-open.ensures,
  rw c.if-not-open.ensures.same,
)

pub returns : goal.returns
returns c =
    let old = c.args.self.now in
    let mid = c.else-rule-gt-FIRST_BITS.self in
    let new : RuledTable = record { rules = c.insert.new.rules; table = mid.table; max_rules = mid.max_rules } in
    let rules : mid.rules ≡ old.rules = elim c.else-rule-gt-FIRST_BITS.branch [
      | else-rule-gt-FIRST_BITS-via-then-rule-gt-FIRST_BITS+else-not-open w ↦ rw w.self-is
      | else-rule-gt-FIRST_BITS-via-else-rule-gt-FIRST_BITS w ↦ rw w.self-is
    ] in
    let max : mid.max_rules ≡ old.max_rules = elim c.else-rule-gt-FIRST_BITS.branch [
      | else-rule-gt-FIRST_BITS-via-then-rule-gt-FIRST_BITS+else-not-open w ↦ rw w.self-is
      | else-rule-gt-FIRST_BITS-via-else-rule-gt-FIRST_BITS w ↦ rw w.self-is
    ] in
    let makes : Makes c.args.rule old.table mid.table = elim c.else-rule-gt-FIRST_BITS.branch [
      | else-rule-gt-FIRST_BITS-via-then-rule-gt-FIRST_BITS+else-not-open w ↦ inr (w.if-rule-gt-FIRST_BITS.true, rw w.self-is w.if-not-open.ensures)
      | else-rule-gt-FIRST_BITS-via-else-rule-gt-FIRST_BITS w ↦ inl (w.if-rule-gt-FIRST_BITS.false, rw w.self-is)
    ] in
    grown old new c.args.index c.args.rule c.requires.kept c.requires.rule c.requires.index (omega (arith, c.len.ensures)) (rw rules at c.insert.ensures.items)
    (rw rules at c.insert.ensures.capacity) max makes

-- The indexes so far are done.
use Rattle.std.proofs.Common.{◌≡◌, ◌++◌, take, drop, length, map}
use Rattle.dp_infer.specs.Joins as spec
use Rattle.dp_infer.proofs.join.joined_facts.Given as goal

abbrev pub invariant-loop-i : goal.invariant-loop-i
invariant-loop-i l = record {
  found : take l.i l.joined ++ map (spec.common_fact l.row.facts l.other.facts) (drop l.i l.facts) ≡ map (spec.common_fact l.row.facts l.other.facts) l.facts;
  eight : length l.joined ≡ 8;
  facts_eight : length l.facts ≡ 8;
}

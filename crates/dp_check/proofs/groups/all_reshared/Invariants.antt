-- The indexes so far have their shares.
use Rattle.std.proofs.Common.{◌≡◌, ◌++◌, take, drop, length, map}
use Rattle.dp_model.specs.Groups.{reshared_fact}
use Rattle.dp_check.proofs.groups.all_reshared.Given as goal

abbrev pub invariant-loop-i : goal.invariant-loop-i
invariant-loop-i l = record {
  told : take l.i l.changed ++ map (reshared_fact l.group l.share) (drop l.i l.facts) ≡ map (reshared_fact l.group l.share) l.facts;
  eight : length l.changed ≡ 8;
}

-- The rule of this depth, or else those of smaller depths.
use Rattle.std.proofs.Common.{arith}
use Rattle.dp_lpm.proofs.Within.{within_zero, entry_found, entry_missing}
use Rattle.dp_lpm.proofs.rule.+entry_within.Goals as goal

pub returns-then-depth-eq0 : goal.returns-then-depth-eq0
returns-then-depth-eq0 t c = rw (c.if-depth-eq0.true, within_zero)

pub returns-in-Ok : goal.returns-in-Ok
returns-in-Ok t c =
    entry_found c.args.rules.now c.args.ip c.args.depth c.in-Ok.index (omega arith) (rw c.prefix_of.ensures at c.in-Ok.ensures.found)

pub returns-in-Err : goal.returns-in-Err
returns-in-Err t c =
    rw (
      c.entry_within.ensures,
      entry_missing c.args.rules.now c.args.ip c.args.depth c.in-Err.field-0 (omega arith)
          (rw c.prefix_of.ensures at c.in-Err.ensures.missing),
    )

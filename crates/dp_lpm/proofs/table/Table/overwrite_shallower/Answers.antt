-- One block more.
use Rattle.std.proofs.Common.{◌≡◌, ◌+◌, ◌*◌, ◌/◌, arith}
use Rattle.dp_lpm.specs.Cells.{entry_in}
use Rattle.dp_lpm.proofs.OverwritingWithin.{overwritten_none, overwritten_joined}
use Rattle.dp_lpm.proofs.table.Table.overwrite_shallower.Goals as goal

pub loop-k-init : goal.loop-k-init
loop-k-init c = overwritten_none c.args.start c.args.depth (entry_in c.args.to) c.args.self.now c.requires.table

pub overwrite_within-requires-in-loop-k-clause-table : goal.overwrite_within-requires-in-loop-k-clause-table
overwrite_within-requires-in-loop-k-clause-table c = c.loop-k.invariant.table

pub loop-k-preserved : goal.loop-k-preserved
loop-k-preserved c =
    let whole = (c.requires.range.whole c.if-size-lt-GROUP_ENTRIES.false).0 in
    let next : (c.args.start / 256 + c.loop-k.k) * 256 + 0 ≡ c.args.start + c.loop-k.k * 256 = omega (arith, whole) in
    let more : c.loop-k.k * 256 + 256 ≡ (c.loop-k.k + 1) * 256 = omega arith in
    rw (← more) (overwritten_joined c.args.start (c.loop-k.k * 256) 256 c.args.depth (entry_in c.args.to) c.args.self.now c.loop-k.self
    c.overwrite_within-in-loop-k.new.self c.loop-k.invariant (rw next at c.overwrite_within-in-loop-k.ensures))

pub returns : goal.returns
returns c =
    let whole = (c.requires.range.whole c.if-size-lt-GROUP_ENTRIES.false).1 in
    let all : c.loop-k.k * 256 ≡ c.args.size = omega (arith, whole) in rw all at c.loop-k.invariant

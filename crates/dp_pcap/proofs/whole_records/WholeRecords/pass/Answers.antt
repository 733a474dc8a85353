-- `pass`: one step more, and what it went by.
use Rattle.std.proofs.Common.{rules, ◌++◌, take, ◌∙◌, arith, append_assoc, take_all}
use Rattle.dp_pcap.proofs.Pieces.{take_more-rest}
use Rattle.dp_pcap.proofs.whole_records.WholeRecords.pass.Goals as goal

pub loop-at-preserved : goal.loop-at-preserved
loop-at-preserved c =
    let stepped = c.step-at.ensures in
    let at = c.loop-at.at in
    let bytes = c.args.bytes.now in
    record {
      within = search rules;
      order = stepped.order ∙ c.loop-at.invariant.order;
      pieces = omega (arith, stepped.pieces, stepped.some, c.loop-at.invariant.pieces);
      beyond = λ few before b. rw (take_more-rest at c.step-at.result bytes)
          (rw append_assoc at (stepped.beyond (search rules) (before ++ take at bytes) (c.loop-at.invariant.beyond few before b)));
    }

pub returns-clause-beyond : goal.returns-clause-beyond
returns-clause-beyond c = λ few before b.
    rw (take_all c.loop-at.at c.args.bytes.now c.loop-at-test.false) at (c.loop-at.invariant.beyond few before b)

-- One more record, also after the last head that was read in the loop.
use Rattle.std.proofs.Common.{rules, arith, append-nil, add-zero}
use Rattle.dp_pcap.proofs.Counting.{front_passed}
use Rattle.dp_pcap.proofs.whole_records.whole_at_front.Goals as goal

pub loop-next-init : goal.loop-next-init
loop-next-init c = record {
  within = omega arith;
  few = omega arith;
  ends = c.record_end-next.ensures;
  before = λ n before b. rw (append-nil, add-zero) b;
}

pub loop-next-preserved : goal.loop-next-preserved
loop-next-preserved c = record {
  within = search rules;
  few = search rules;
  ends = search rules;
  before = front_passed c.args.order c.loop-next.count c.loop-next.at c.loop-next.next c.args.bytes.now c.loop-next.invariant.ends (search rules)
      c.loop-next.invariant.before;
}

pub returns-then-next-bytes-clause-beyond : goal.returns-then-next-bytes-clause-beyond
returns-then-next-bytes-clause-beyond c =
    front_passed c.args.order c.loop-next.count c.loop-next.at c.loop-next.next c.args.bytes.now c.loop-next.invariant.ends c.if-next-bytes.true
    c.loop-next.invariant.before

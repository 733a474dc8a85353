-- A header has 24 bytes, and decides the byte order.
use Rattle.std.proofs.Common.{arith, length-take}
use Rattle.dp_pcap.proofs.whole_records.WholeRecords.of_capture.Goals as goal

pub returns-then-front-lt-HEADER_SIZE-clause-order : goal.returns-then-front-lt-HEADER_SIZE-clause-order
returns-then-front-lt-HEADER_SIZE-clause-order c = λ order unit is.
    absurd (omega (arith, is.size, c.if-front-lt-HEADER_SIZE.true, length-take 24 c.args.front.now))

pub returns-clause-order : goal.returns-clause-order
returns-clause-order c = λ order unit is. rw (c.before-2.ensures, c.order_of.ensures order unit is)

pub returns-then-front-lt-HEADER_SIZE-clause-none : goal.returns-then-front-lt-HEADER_SIZE-clause-none
returns-then-front-lt-HEADER_SIZE-clause-none c = rw c.new.ensures

pub returns-clause-none : goal.returns-clause-none
returns-clause-none c = rw c.before-2.ensures

-- A list is left once none of its elements has room for the block.
use Rattle.dp_heap.proofs.Walk.{past_begins, past_more, past_below, past_all}
use Rattle.dp_heap.proofs.lists.Lists.find.Goals as goal

pub loop-class-init : goal.loop-class-init
loop-class-init c = rw (c.class_of-class.ensures, c.from.ensures) (past_begins c.args.region.now.bytes c.args.len c.args.align)

pub loop-class-preserved : goal.loop-class-preserved
loop-class-preserved c = past_more c.args.region.now.bytes c.args.len c.args.align c.loop-class.class c.loop-class.invariant c.loop-class-test.true
    c.in_default.ensures

pub returns-in-Some : goal.returns-in-Some
returns-in-Some c =
    let (inside, free, highest, class) = c.in-Some.ensures in
    let below = past_below c.args.region.now.bytes c.args.len c.args.align c.loop-class.class c.loop-class.invariant in
    (inside, free, highest, λ b less. below b (rw class at less))

pub returns : goal.returns
returns c = past_all c.args.region.now.bytes c.args.len c.args.align c.loop-class.class c.loop-class.invariant c.loop-class-test.false

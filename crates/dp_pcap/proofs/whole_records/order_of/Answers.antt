-- The version decides the byte order.
use Rattle.std.proofs.Common.{◌≡◌, ◌≢◌, ◌-◌, ◌∙◌, arith, drop, length, length-drop, sym, take_all}
use Rattle.dp_pcap.specs.declared.byte_order.Order.TheVariants.{Big}
use Rattle.dp_pcap.specs.Capture.{number}
use Rattle.dp_pcap.proofs.Counting.{version_big, version_little}
use Rattle.dp_pcap.proofs.whole_records.order_of.Goals as goal

pub returns-then-short_number-eq-MAJOR : goal.returns-then-short_number-eq-MAJOR
returns-then-short_number-eq-MAJOR c = λ order unit is.
    let header = c.args.header.now in
    let rest = take_all (length header - 4) (drop 4 header) (omega (arith, length-drop 4 header)) in
    let two : number Big 2 (drop 4 header) ≡ 2 = rw rest at (sym c.short_number.ensures ∙ c.if-short_number-eq-MAJOR.true) in
    version_big order unit header two is

pub returns-else-short_number-eq-MAJOR : goal.returns-else-short_number-eq-MAJOR
returns-else-short_number-eq-MAJOR c = λ order unit is.
    let header = c.args.header.now in
    let rest = take_all (length header - 4) (drop 4 header) (omega (arith, length-drop 4 header)) in
    let other : number Big 2 (drop 4 header) ≢ 2 = λ two. c.if-short_number-eq-MAJOR.false (c.short_number.ensures ∙ rw rest two) in
    version_little order unit header other is

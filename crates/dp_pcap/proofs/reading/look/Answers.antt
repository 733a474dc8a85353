-- `look`: the reader gave a record's head whole, and then bytes after it, or it failed inside them.
use Rattle.std.proofs.Common.{◌≡◌, ◌+◌, ◌≤◌, Ok, Err, rules, arith, length, take, length-take}
use Rattle.std.proofs.lemmas.List.{length-take-le}
use Rattle.std.proofs.lemmas.Grind.{common_steps}
use Rattle.dp_pcap.specs.declared.error.PcapError.TheVariants.{Read}
use Rattle.dp_pcap.specs.declared.source.Next.TheVariants.{Record, Cut}
use Rattle.dp_pcap.proofs.Known.{fails_in_body, noted, two_reads, two_pulls, whole_head, as_it_was}
use Rattle.dp_pcap.proofs.reading.look.Goals as goal

pub returns-in_default-fill-clause-answer : goal.returns-in_default-fill-clause-answer
returns-in_default-fill-clause-answer g c =
    let (came, short, read, few) = c.in_default-fill.ensures.bytes in
    fails_in_body _ _ _ c.args.source.now c.fill.new.buf came c.in-Ok.got c.in-Ok.ensures.bytes.0 (search rules) (search rules) read (search rules)
    (search rules) (search rules)

pub returns-in_default-fill-clause-ahead : goal.returns-in_default-fill-clause-ahead
returns-in_default-fill-clause-ahead g c =
    let (came, short, read, few) = c.in_default-fill.ensures.bytes in
    two_reads _ _ _ (take c.in-Ok.got c.fill.new.buf) came _ c.in-Ok.ensures.bytes.0 read
    (omega (
      arith,
      length-take c.in-Ok.got c.fill.new.buf,
      c.fill.auto.buf,
      short,
      length-take c.in_ok-time.len c.args.buf.now,
      c.in_ok-time.ensures.in_range.1,
    ))

pub returns-in_default-fill-clause-beyond : goal.returns-in_default-fill-clause-beyond
returns-in_default-fill-clause-beyond g c =
    as_it_was c.fill-2.new.buf c.args.buf.now c.in_ok-time.len 262144 (search rules) c.in_ok-time.ensures.in_range.1

pub returns-then-came-len-clause-ahead : goal.returns-then-came-len-clause-ahead
returns-then-came-len-clause-ahead g c =
    two_reads _ _ _ (take c.in-Ok.got c.fill.new.buf) (take c.in-Ok-fill.came c.fill-2.new.buf) _ c.in-Ok.ensures.bytes.0 c.in-Ok-fill.ensures.bytes.0
    (omega (
      arith,
      length-take c.in-Ok.got c.fill.new.buf,
      c.fill.auto.buf,
      c.if-came-len.true,
      length-take c.in-Ok-fill.came c.fill-2.new.buf,
      c.in_ok-time.ensures.in_range.1,
    ))

pub returns-then-came-len-clause-beyond : goal.returns-then-came-len-clause-beyond
returns-then-came-len-clause-beyond g c =
    as_it_was c.fill-2.new.buf c.args.buf.now c.in_ok-time.len 262144 (search rules) c.in_ok-time.ensures.in_range.1

pub returns-clause-ahead : goal.returns-clause-ahead
returns-clause-ahead g c =
    rw c.note.ensures.bytes
    (two_reads _ _ _ (take c.in-Ok.got c.fill.new.buf) (take c.in-Ok-fill.came c.fill-2.new.buf) _ c.in-Ok.ensures.bytes.0 c.in-Ok-fill.ensures.bytes.0
    (omega (
      arith,
      length-take c.in-Ok.got c.fill.new.buf,
      c.fill.auto.buf,
      length-take c.in-Ok-fill.came c.fill-2.new.buf,
      c.fill-2.auto.buf,
      length-take c.in_ok-time.len c.args.buf.now,
    )))

pub returns-clause-truncated : goal.returns-clause-truncated
returns-clause-truncated g c =
    rw c.note.ensures.bytes
    (noted _ _ _ _ c.fill.new.buf (take c.in-Ok-fill.came c.fill-2.new.buf) c.in-Ok.got _ _ c.in-Ok.ensures.bytes.0 (search rules) (search rules)
    c.in-Ok-fill.ensures.bytes.0 (search rules))

pub returns-in_default-fill-clause-pulls : goal.returns-in_default-fill-clause-pulls
returns-in_default-fill-clause-pulls g c =
    let (came, short, read, few) = c.in_default-fill.ensures.bytes in
    let head : length (take c.in-Ok.got c.fill.new.buf) ≡ 16 = whole_head c.fill.new.buf c.in-Ok.got (search rules) (search rules) in
    let first : g.R.Feed.calls c.fill.new.r ≤ g.R.Feed.calls c.args.r.now + 16 = search rules in
    let sum : g.R.Feed.calls c.fill-2.new.r ≤ g.R.Feed.calls c.args.r.now + (length (take c.in-Ok.got c.fill.new.buf) + length came + 1) =
    omega (arith, head, first, few) in
    two_pulls _ _ _ (take c.in-Ok.got c.fill.new.buf) came (Err Read) (g.R.Feed.calls c.args.r.now) (g.R.Feed.calls c.fill-2.new.r) c.in-Ok.ensures.bytes.0
    read sum

pub returns-then-came-len-clause-pulls : goal.returns-then-came-len-clause-pulls
returns-then-came-len-clause-pulls g c =
    let head : length (take c.in-Ok.got c.fill.new.buf) ≡ 16 = whole_head c.fill.new.buf c.in-Ok.got (search rules) (search rules) in
    let body : length (take c.in-Ok-fill.came c.fill-2.new.buf) ≡ c.in-Ok-fill.came =
    length-take-le c.in-Ok-fill.came c.fill-2.new.buf c.in-Ok-fill.ensures.bound in
    let first : g.R.Feed.calls c.fill.new.r ≤ g.R.Feed.calls c.args.r.now + 16 = search rules in
    let sum : g.R.Feed.calls c.fill-2.new.r ≤ g.R.Feed.calls c.args.r.now
    + (length (take c.in-Ok.got c.fill.new.buf) + length (take c.in-Ok-fill.came c.fill-2.new.buf) + 1) =
    omega (arith, head, body, first, c.in-Ok-fill.ensures.ends) in
    two_pulls _ _ _ (take c.in-Ok.got c.fill.new.buf) (take c.in-Ok-fill.came c.fill-2.new.buf) (Ok (Cut c.offset-then-came-len.result))
    (g.R.Feed.calls c.args.r.now) (g.R.Feed.calls c.fill-2.new.r) c.in-Ok.ensures.bytes.0 c.in-Ok-fill.ensures.bytes.0 sum

pub returns-clause-pulls : goal.returns-clause-pulls
returns-clause-pulls g c =
    let head : length (take c.in-Ok.got c.fill.new.buf) ≡ 16 = whole_head c.fill.new.buf c.in-Ok.got (search rules) (search rules) in
    let body : length (take c.in-Ok-fill.came c.fill-2.new.buf) ≡ c.in-Ok-fill.came =
    length-take-le c.in-Ok-fill.came c.fill-2.new.buf c.in-Ok-fill.ensures.bound in
    let all : c.in_ok-time.len ≤ c.in-Ok-fill.came = search rules in
    let most : g.R.Feed.calls c.note.new.r ≤ g.R.Feed.calls c.args.r.now + (16 + c.in_ok-time.len) = search rules in
    let sum : g.R.Feed.calls c.note.new.r ≤ g.R.Feed.calls c.args.r.now
    + (length (take c.in-Ok.got c.fill.new.buf) + length (take c.in-Ok-fill.came c.fill-2.new.buf)) = omega (arith, head, body, all, most) in
    rw c.note.ensures.bytes
    (two_pulls _ _ _ (take c.in-Ok.got c.fill.new.buf) (take c.in-Ok-fill.came c.fill-2.new.buf) (Ok (Record c.in_ok-time.time c.in_ok-time.len))
    (g.R.Feed.calls c.args.r.now) (g.R.Feed.calls c.note.new.r) c.in-Ok.ensures.bytes.0 c.in-Ok-fill.ensures.bytes.0 sum)

pub returns-in_err-time-clause-answer : goal.returns-in_err-time-clause-answer
returns-in_err-time-clause-answer g c = grind (arith, common_steps)

pub returns-then-came-len-clause-answer : goal.returns-then-came-len-clause-answer
returns-then-came-len-clause-answer g c = grind (arith, common_steps)

pub returns-clause-answer : goal.returns-clause-answer
returns-clause-answer g c = grind (arith, common_steps)

pub returns-clause-beyond : goal.returns-clause-beyond
returns-clause-beyond g c = grind (arith, common_steps)

-- As many bytes as fit are written into a new mbuf.
use Rattle.std.proofs.Common.{◌≡◌, ◌∙◌, ap, take, length}
use Rattle.std.proofs.lemmas.List.{take_min}
use Rattle.dp_mbuf.proofs.Allocs.{same_min}
use Rattle.dp_mbuf.proofs.steps.fill_segment.Goals as goal

pub returns-clause-filled : goal.returns-clause-filled
returns-clause-filled c =
    let chunk : take c.min-count.result c.args.bytes.now ≡ take c.args.full c.args.bytes.now =
    ap (λ n. take n c.args.bytes.now) ((rw c.from.ensures at c.min-count.ensures) ∙ same_min (length c.args.bytes.now) c.args.full)
    ∙ take_min c.args.full c.args.bytes.now in
    let both = rw (c.from-2.ensures, c.fresh_header-header.ensures) at c.fill.ensures.both in
    rw (← chunk)
    (record {
      first = c.take_one-n.new.objects;
      second = both.middle;
      taken = c.take_one-n.ensures.taken;
      header = both.header;
      bytes_in = both.bytes_in;
    })

-- The eight bytes of the number are lent, written and taken back.
use Rattle.std.proofs.Common.{refl, lit<}
use Rattle.byteorder.specs.Endian.{little_bytes}
use Rattle.dp_region.proofs.Spans.{unlent_unlisted}
use Rattle.dp_region.proofs.Bytes.{stored}
use Rattle.dp_region.proofs.region.Region.store_u64.Goals as goal

pub returns-clause-stored : goal.returns-clause-stored
returns-clause-stored c =
    let r = c.args.self.now in
    rw (c.reclaim.ensures.back, c.store_u64.ensures.stored, c.lend-block.ensures.block, c.lend-block.ensures.lent)
    (stored r c.args.offset 8 (little_bytes 8 c.args.value) refl c.requires.0 (unlent_unlisted r.lent c.args.offset 8 (lit< tt) c.requires.1))

-- The two words are the header's offset and length.
use Rattle.std.proofs.Common.{refl}
use Rattle.dp_mbuf.proofs.HeaderFields.{bounds_done}
use Rattle.dp_mbuf.proofs.objects.Objects.set_bounds.Goals as goal

pub returns : goal.returns
returns c = bounds_done _ _ _ c.write_pair.ensures.long _ c.args.offset c.args.len refl c.write_pair.ensures.written

-- The two words are the header's next mbuf.
use Rattle.std.proofs.Common.{refl}
use Rattle.dp_mbuf.proofs.HeaderFields.{next_done}
use Rattle.dp_mbuf.proofs.objects.Objects.set_next.Goals as goal

pub returns : goal.returns
returns c = next_done _ _ _ c.write_pair.ensures.long _ c.args.next _ _ c.index.ensures c.pool.ensures refl c.write_pair.ensures.written

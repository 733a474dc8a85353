-- Two bytes stored one after the other are one write.
use Rattle.dp_mbuf.proofs.Putting.{set_two}
use Rattle.dp_mbuf.proofs.big_endian.put_two.Goals as goal

pub returns : goal.returns
returns c = set_two c.args.bytes.now c.args.at c.args.a c.args.b c.requires

-- The bytes written at the front are the header's references.
use Rattle.dp_mbuf.proofs.HeaderFields.{refs_done}
use Rattle.dp_mbuf.proofs.objects.Objects.set_refs.Goals as goal

pub returns : goal.returns
returns c = refs_done _ _ _ c.write_front.ensures.long _ c.args.refs c.bytes_of_refs-bytes.ensures.bytes c.write_front.ensures.written

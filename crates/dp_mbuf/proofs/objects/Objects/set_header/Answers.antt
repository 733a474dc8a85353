-- The bytes written at the front are the header's.
use Rattle.dp_mbuf.proofs.HeaderFields.{header_done}
use Rattle.dp_mbuf.proofs.objects.Objects.set_header.Goals as goal

pub returns : goal.returns
returns c = header_done _ _ _ c.write_front.ensures.long _ c.args.h c.bytes_of_header.ensures.bytes c.write_front.ensures.written

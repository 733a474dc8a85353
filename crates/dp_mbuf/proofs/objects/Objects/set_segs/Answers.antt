-- The bytes written at the front are the header's number of segments.
use Rattle.dp_mbuf.proofs.HeaderFields.{segs_done}
use Rattle.dp_mbuf.proofs.objects.Objects.set_segs.Goals as goal

pub returns : goal.returns
returns c = segs_done _ _ _ c.write_front.ensures.long _ c.args.segs c.bytes_of_word.ensures.bytes c.write_front.ensures.written

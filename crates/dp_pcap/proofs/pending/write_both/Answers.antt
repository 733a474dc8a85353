-- `write_both`: the front, and then the rest.
use Rattle.dp_pcap.proofs.Pieces.{both_written}
use Rattle.dp_pcap.proofs.pending.write_both.Goals as goal

pub returns : goal.returns
returns c = rw (c.copy_piece.ensures, c.copy_from_slice.ensures.after) (both_written c.args.first.now c.args.second.now c.args.to.now)

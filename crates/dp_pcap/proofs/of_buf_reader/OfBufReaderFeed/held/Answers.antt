-- `held` of a buffered reader: its buffer comes next.
use Rattle.dp_pcap.proofs.AtHand.{begins}
use Rattle.dp_pcap.proofs.of_buf_reader.OfBufReaderFeed.held.Goals as goal

pub returns-then-is_broken-clause-next : goal.returns-then-is_broken-clause-next
returns-then-is_broken-clause-next g c = begins _ _ _ _

-- `pass` of a buffered reader: what is consumed was buffered.
use Rattle.dp_pcap.proofs.AtHand.{passes}
use Rattle.dp_pcap.proofs.of_buf_reader.OfBufReaderFeed.pass.Goals as goal

pub returns-clause-bytes : goal.returns-clause-bytes
returns-clause-bytes g c = passes _ _ _ _ _ c.requires c.consume.ensures.bytes

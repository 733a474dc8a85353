-- `pass_record`: the buffered record is the next one.
use Rattle.dp_pcap.proofs.AtHand.{passed}
use Rattle.dp_pcap.proofs.reading.pass_record.Goals as goal

pub returns-clause-continues : goal.returns-clause-continues
returns-clause-continues g c = λ time held.
    passed _ _ c.args.source.now c.advance.new.self _ time c.args.found.len held (rw c.note.ensures.bytes c.pass.ensures.bytes) c.advance.ensures

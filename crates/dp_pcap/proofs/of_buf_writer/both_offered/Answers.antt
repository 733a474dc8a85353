-- `both_offered`: each piece once.
use Rattle.std.proofs.Common.{rules}
use Rattle.dp_pcap.proofs.Offering.{both_once, first_once}
use Rattle.dp_pcap.proofs.of_buf_writer.both_offered.Goals as goal

pub returns-then-is_empty : goal.returns-then-is_empty
returns-then-is_empty c = first_once c.args.offers.now.pieces _ c.args.head.now c.args.body.now (search rules) (search rules) (search rules)

pub returns : goal.returns
returns c = both_once c.args.offers.now.pieces _ c.args.head.now c.args.body.now (search rules) (search rules) (search rules)

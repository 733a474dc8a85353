-- The fields lie where the definition of a header reads them.
use Rattle.std.proofs.Common.{rules}
use Rattle.dp_mbuf.specs.Headers.{header_of}
use Rattle.dp_mbuf.proofs.header.read_header.Goals as goal

pub returns : goal.returns
unfolding header_of
returns c = search rules

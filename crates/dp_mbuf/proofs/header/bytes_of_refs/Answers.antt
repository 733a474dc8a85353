-- The four little-endian bytes of a count of references are its two words.
use Rattle.std.proofs.Common.{◌∙◌}
use Rattle.dp_mbuf.proofs.HeaderFields.{refs_bytes}
use Rattle.dp_mbuf.proofs.header.bytes_of_refs.Goals as goal

pub returns-clause-bytes : goal.returns-clause-bytes
returns-clause-bytes c = c.to_le_bytes.ensures ∙ refs_bytes c.args.refs c.ranges.refs.fits

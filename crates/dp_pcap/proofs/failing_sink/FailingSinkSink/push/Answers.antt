-- Goals that the search alone does not find.
use Rattle.std.proofs.Common.{arith}
use Rattle.std.proofs.lemmas.Grind.{common_steps}
use Rattle.dp_pcap.proofs.failing_sink.FailingSinkSink.push.Goals as goal

pub returns-in-Ok-clause-bytes : goal.returns-in-Ok-clause-bytes
returns-in-Ok-clause-bytes g c = grind (arith, common_steps)

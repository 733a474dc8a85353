-- The findings that are left.
use Rattle.std.proofs.Common.{length}
use Rattle.dp_verdict.proofs.report.+say_text.Given as goal

abbrev pub decreases-say_text : goal.decreases-say_text
decreases-say_text l = length l.findings.now

-- The findings so far.
use Rattle.std.specs.Prelude.{Some}
use Rattle.dp_verdict.specs.Judging.{AreFindings}
use Rattle.dp_sources.specs.Sources.{files_of}
use Rattle.dp_verdict.proofs.judging.Case.find.Given as goal

abbrev pub invariant-loop-index : goal.invariant-loop-index
invariant-loop-index l = AreFindings (Some (files_of l.self.sources.now)) l.self.subject l.index l.findings.items

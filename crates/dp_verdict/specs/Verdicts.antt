-- Verdicts, and their texts.
use Rattle.std.specs.Prelude.{ℕ, List, [], ◌∷◌, ◌++◌, Bool, Option, Some, None, codes, if◌then◌else◌}
use Rattle.std.specs.Fmt.{decimal}
use Rattle.dp_model.specs.declared.env.Entry.{Entry}
use Rattle.dp_load.specs.Causes.{node_text}
use Rattle.dp_verdict.specs.declared.report.RefusedAt.{RefusedAt}
use Rattle.dp_verdict.specs.declared.report.Verdict.{Verdict}
use Rattle.dp_verdict.specs.declared.report.Why.{Why}
use Rattle.dp_verdict.specs.declared.report.Finding.{Finding}

abbrev pub verdict_word : Bool → List ℕ
verdict_word given = if given then codes "refused" else codes "not inferred"

-- a verdict without its newline
abbrev pub text_at : Entry → Option RefusedAt → List ℕ
text_at node None = node_text node ++ codes " accepted"
text_at node (Some at) = node_text node ++ (codes " " ++ (verdict_word at.given ++ (codes " at " ++ (decimal at.label ++ (codes " by J" ++ decimal at.rule)))))

abbrev pub verdict_text : Verdict → List ℕ
verdict_text verdict = text_at verdict.node verdict.refused

-- a verdict without a reason
abbrev pub alone : Verdict → Finding
alone verdict = record { verdict = verdict; why = None }

-- the line of a verdict; the words of an explanation are in no contract
abbrev pub text_with : Verdict → Option Why → Option (List ℕ)
text_with verdict None = Some (verdict_text verdict ++ 10 ∷ [])
text_with verdict (Some why) = None

abbrev pub finding_text : Finding → Option (List ℕ)
finding_text finding = text_with finding.verdict finding.why

-- The status of a report, and its text.
use Rattle.std.specs.Prelude.{ℕ, List, [], ◌∷◌, ◌++◌, Bool, is_some, Option, Some, None, if◌then◌else◌}
use Rattle.std.specs.List.{list_any}
use Rattle.std.specs.Global.{Vec}
use Rattle.dp_sources.specs.declared.fault.Fault.{Fault}
use Rattle.dp_sources.specs.Faults as faults
use Rattle.dp_verdict.specs.declared.report.Finding.{Finding}
use Rattle.dp_verdict.specs.declared.report.Report.{Report}
use Rattle.dp_verdict.specs.Verdicts.{finding_text}

abbrev pub is_refused : Finding → Bool
is_refused finding = is_some finding.verdict.refused

abbrev pub listed : Option (Vec Finding) → List Finding
listed (Some nodes) = nodes.items
listed None = []

abbrev pub findings_of : Report → List Finding
findings_of report = listed report.nodes

-- that of the fault; else 1 if a program is refused
abbrev pub status_with : Option Fault → List Finding → ℕ
status_with (Some it) findings = faults.status_of it
status_with None findings = if list_any is_refused findings then 1 else 0

abbrev pub status_of : Report → ℕ
status_of report = status_with report.fault (findings_of report)

-- the lines of findings, if they have no explanations
abbrev pub join : Option (List ℕ) → Option (List ℕ) → Option (List ℕ)
join (Some first) (Some rest) = Some (first ++ rest)
join _ _ = None

abbrev pub texts_of : List Finding → Option (List ℕ)
texts_of [] = Some []
texts_of (finding ∷ more) = join (finding_text finding) (texts_of more)

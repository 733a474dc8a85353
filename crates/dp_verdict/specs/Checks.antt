-- What `dpv check` says.
use Rattle.std.specs.Prelude.{◌≡◌, ◌⊎◌, List, [], ◌∷◌, Bool, true, false, Option, Some, None, Result, Ok, Err, IfSome, MatchOption, map}
use Rattle.dp_model.specs.declared.env.Entry.{Entry}
use Rattle.dp_model.specs.Rules.{Question}
use Rattle.dp_load.specs.declared.error.PipeError.{PipeError}
use Rattle.dp_load.specs.declared.error.PipeError.TheVariants.{NotInferred, Refused}
use Rattle.dp_load.specs.Pipelines.{Plan}
use Rattle.dp_console.specs.declared.reply.Reply.{Reply}
use Rattle.dp_sources.specs.declared.fault.Fault.{Fault}
use Rattle.dp_sources.specs.declared.fault.Fault.TheVariants.{Memory}
use Rattle.dp_sources.specs.Faults.{IsFaultOf}
use Rattle.dp_verdict.specs.declared.report.RefusedAt.{RefusedAt}
use Rattle.dp_verdict.specs.declared.report.Finding.{Finding}
use Rattle.dp_verdict.specs.declared.report.Report.{Report}
use Rattle.dp_verdict.specs.Reports.{findings_of, status_of, texts_of}
use Rattle.dp_verdict.specs.Verdicts.{alone}

abbrev pub accepted_at : Entry → Finding
accepted_at node = alone (record { node = node; refused = None })

abbrev pub accepted : Question → Finding
accepted q = accepted_at q.entry

abbrev pub refused_at : Entry → RefusedAt → Finding
refused_at node at = alone (record { node = node; refused = Some at })

-- these findings, and no fault; or only that memory was refused
abbrev pub HasOnly : List Finding → Report → Type 0
HasOnly findings report = ((findings_of report ≡ findings) × (report.fault ≡ None)) ⊎ (report.fault ≡ Some Memory)

-- the node whose program is refused or has no certificate, and where
abbrev pub refusal_of : PipeError → Option (Entry × RefusedAt)
refusal_of (Refused node label rule) = Some (node, record { given = true; label = label; rule = rule })
refusal_of (NotInferred node label rule) = Some (node, record { given = false; label = label; rule = rule })
refusal_of _ = None

-- only that program is reported; or the fault of this cause
abbrev pub IsRefused : PipeError → Report → Type 0
IsRefused e report = MatchOption (refusal_of e) ((fault : Fault) × IsFaultOf e fault × (report.fault ≡ Some fault))
    (λ refusal. HasOnly (refused_at refusal.0 refusal.1 ∷ []) report)

-- all nodes are reported as accepted; or why there is no pipeline
abbrev pub IsChecked : Result Plan PipeError → Report → Type 0
IsChecked (Ok p) report = HasOnly (map accepted p.nodes) report
IsChecked (Err e) report = IsRefused e report

-- the reply to a report of this kind: its status, and its text
pub record SaysReport (Is : Report → Type 0) (is_json : Bool) (reply : Reply) : Type 0 where
  pub report : Report
  pub is : Is report
  pub status : reply.status ≡ status_of report
  pub text : is_json ≡ false → reply.out.has_failed ≡ false → IfSome (texts_of (findings_of report)) (λ text. reply.out.bytes.items ≡ text)

abbrev pub SaysChecked : Result Plan PipeError → Bool → Reply → Type 0
SaysChecked loaded is_json reply = SaysReport (IsChecked loaded) is_json reply

abbrev pub SaysRefused : PipeError → Bool → Reply → Type 0
SaysRefused e is_json reply = SaysReport (IsRefused e) is_json reply

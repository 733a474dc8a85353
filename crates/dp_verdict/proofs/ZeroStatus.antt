-- A check ends with status 0 only if the pipeline was loaded.
use Rattle.std.proofs.Common.{◌≡◌, List, [], ◌∷◌, Option, Some, None, Result, Ok, Err, Bool, sym, ◌∙◌, ap, subst, inl, inr, arith}
use Rattle.std.specs.Prelude.{IfErr, MatchOption}
use Rattle.dp_load.specs.{declared.error.PipeError.PipeError, Pipelines.Plan}
use Rattle.dp_model.specs.declared.env.Entry.{Entry}
use Rattle.dp_sources.specs.{declared.fault.Fault.Fault, Faults.IsFaultOf}
use Rattle.dp_sources.specs.declared.fault.Fault.TheVariants as fault
use Rattle.dp_verdict.specs.{declared.report.RefusedAt.RefusedAt, declared.report.Finding.Finding, declared.report.Report.Report}
use Rattle.dp_console.specs.declared.reply.Reply.{Reply}
use Rattle.dp_verdict.specs.Checks.{HasOnly, IsChecked, SaysRefused, refusal_of, refused_at}
use Rattle.dp_sources.specs.Faults as faults
use Rattle.dp_verdict.specs.Reports.{findings_of, status_of, status_with}

pub fault_not_zero : (f : Fault) → faults.status_of f ≡ 0 → ⊥
fault_not_zero fault.Memory zero = absurd (omega (arith, zero))
fault_not_zero (fault.File name) zero = absurd (omega (arith, zero))
fault_not_zero (fault.Pipeline error) zero = absurd (omega (arith, zero))

faulted : (f : Option Fault) (fs : List Finding) (it : Fault) → f ≡ Some it → status_with f fs ≡ 0 → ⊥
faulted f fs it is zero = fault_not_zero it (subst (λ (o : Option Fault). status_with o fs ≡ 0) is zero)

only_refused : (report : Report) (node : Entry) (at : RefusedAt) → HasOnly (refused_at node at ∷ []) report → status_of report ≡ 0 → ⊥
only_refused report node at (inl has) zero =
    let one : status_of report ≡ 1 = ap (λ (o : Option Fault). status_with o (findings_of report)) has.1
    ∙ ap (λ (l : List Finding). status_with None l) has.0 in
    absurd (omega (arith, one, zero))
only_refused report node at (inr memory) zero = faulted report.fault (findings_of report) fault.Memory memory zero

not_loaded : (e : PipeError) (o : Option (Entry × RefusedAt)) (report : Report)
    → MatchOption o ((f : Fault) × IsFaultOf e f × (report.fault ≡ Some f)) (λ refusal. HasOnly (refused_at refusal.0 refusal.1 ∷ []) report)
    → status_of report ≡ 0 → ⊥
not_loaded e None report (f, of, is) zero = faulted report.fault (findings_of report) f is zero
not_loaded e (Some refusal) report is zero = only_refused report refusal.0 refusal.1 is zero

pub zero_is_loaded : (loaded : Result Plan PipeError) (report : Report) → IsChecked loaded report → status_of report ≡ 0 → IfErr loaded (λ e. ⊥)
zero_is_loaded (Ok p) report is zero = tt
zero_is_loaded (Err e) report is zero = not_loaded e (refusal_of e) report is zero

pub refused_not_zero : (e : PipeError) (is_json : Bool) (reply : Reply) → SaysRefused e is_json reply → reply.status ≡ 0 → ⊥
refused_not_zero e is_json reply says zero = zero_is_loaded (Err e) says.report says.is (sym says.status ∙ zero)

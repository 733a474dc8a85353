-- No earlier label fails.
use Rattle.std.proofs.Common.{◌≡◌, ℕ, ◌<◌, None}
use Rattle.dp_model.specs.Rules.{fault_at}
use Rattle.dp_cert.specs.declared.cert.Version.{Version}
use Rattle.dp_check.specs.Faults.{question}
use Rattle.dp_check.proofs.diagnosis.first_reason.Given as goal

abbrev pub invariant-loop-label : goal.invariant-loop-label
invariant-loop-label l = (version : Version) (k : ℕ) → k < l.label → fault_at
    (question l.program (record { version = version; rows = l.rows }) l.env l.fn.entry) k ≡ None

-- The outputs of a run after they were flushed, and the result of the run then.
use Rattle.std.specs.Prelude.{◌≡◌, ℕ, suc, min, Bool, List, [], ◌∷◌, Option, Some, None, is_some, Result, Ok, Err, ⊤, position, slice_get}
use Rattle.std.specs.Prelude.{option_map, option_and_then}
use Rattle.std.specs.Option.{option_map_or}
use Rattle.std.specs.Io.KnownBytes.{Keeps}
use Rattle.std.specs.declared.io.Error.{Error}
use Rattle.dp_engine.specs.declared.report.PortReport.{PortReport}
use Rattle.dp_engine.specs.declared.report.Report.{Report}
use Rattle.dp_pipe.specs.declared.forwarding.RunCause.{RunCause}
use Rattle.dp_pipe.specs.declared.forwarding.RunCause.TheVariants.{Out}
use Rattle.dp_pipe.specs.declared.running.RunFault.{RunFault}
use Rattle.dp_pipe.specs.Running.{report_of, answer_of}
use Rattle.dp_captures.specs.declared.outlet.Incomplete.{Incomplete}
use Rattle.dp_runs.specs.declared.closing.Flushed.{Flushed}
use Rattle.dp_captures.specs.Outlets.{HasWhole, TookFront}

-- an output's file took everything; or a prefix, and the count is of the records that are whole there
abbrev pub IsClosed : Option (List ℕ) → Option (List ℕ) → Option Incomplete → Type 0
IsClosed given taken None = Keeps given taken
IsClosed given taken (Some incomplete) = TookFront given taken × HasWhole incomplete.whole taken

-- each output of a list
abbrev pub AreClosed : List (Option (List ℕ)) → List (Option (List ℕ)) → List (Option Incomplete) → Type 0
AreClosed [] [] [] = ⊤
AreClosed (given ∷ givens) (taken ∷ takens) (loss ∷ losses) = IsClosed given taken loss × AreClosed givens takens losses
AreClosed givens takens losses = ⊥

-- whether a device is broken, how many of its calls failed, and how many there were
abbrev pub health : {D : Type 0} → (D → Bool) → (D → ℕ) → (D → ℕ) → D → Bool × ℕ × ℕ
health is_broken failures calls d = (is_broken d, failures d, calls d)

-- how the output of a port is incomplete
abbrev pub loss_at : List (Option Incomplete) → ℕ → Option Incomplete
loss_at lost port = option_and_then (λ loss. loss) (slice_get lost port)

-- the counts of a port, with `sent` lowered to the records that its file took whole
abbrev pub lowered : PortReport → Option Incomplete → PortReport
lowered port None = port
lowered port (Some incomplete) = record port { sent = min port.sent incomplete.whole }

-- each port of a list, numbered from k
abbrev pub lowered_from : ℕ → List PortReport → List (Option Incomplete) → List PortReport
lowered_from k [] lost = []
lowered_from k (port ∷ ports) lost = lowered port (loss_at lost k) ∷ lowered_from (suc k) ports lost

-- the first port whose output is incomplete
abbrev pub first_lost : List (Option Incomplete) → Option ℕ
first_lost lost = position is_some lost

-- the result of a run: one that stopped did so for its own cause; otherwise it stopped at the first incomplete output
abbrev pub came_to : Result Report RunFault → List (Option Incomplete) → Result ⊤ RunCause
came_to (Err fault) lost = Err fault.cause
came_to (Ok report) lost = option_map_or (λ port. Err (Out port)) (first_lost lost) (Ok tt)

-- the error of the output at which it stopped, if that is incomplete
abbrev pub failure_of : List (Option Incomplete) → Result ⊤ RunCause → Option Error
failure_of lost (Err (Out port)) = option_map (λ incomplete. incomplete.failure) (loss_at lost port)
failure_of lost answer = None

-- The result of a run after its outputs, which were given these bytes, are written out to files that took those.
pub record IsFlushed (givens takens : List (Option (List ℕ))) (ran : Result Report RunFault) (s : Flushed) : Type 0 where
  pub lost : List (Option Incomplete)
  pub closed : AreClosed givens takens lost
  pub came : answer_of s.answer ≡ came_to ran lost
  pub ports : (report_of s.answer).ports.items ≡ lowered_from 0 (report_of ran).ports.items lost
  pub others : report_of s.answer ≡ record (report_of ran) { ports = (report_of s.answer).ports }
  pub failure : s.failure ≡ failure_of lost (answer_of s.answer)

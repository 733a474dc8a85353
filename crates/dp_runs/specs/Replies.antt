-- What is said of a run, and its exit status.
use Rattle.std.specs.Prelude.{◌≡◌, ℕ, List, [], ◌∷◌, ◌++◌, Bool, true, false, codes, Option, None, Some, Result, Ok, Err, ⊤}
use Rattle.std.specs.Option.{option_map_or}
use Rattle.std.specs.Fmt.{decimal}
use Rattle.dp_console.specs.declared.reply.Reply.{Reply}
use Rattle.dp_console.specs.declared.reply.Text.{Text}
use Rattle.dp_console.specs.Replies.{IsWhole}
use Rattle.dp_engine.specs.declared.report.Report.{Report}
use Rattle.dp_pcap.specs.Causes.{number_of}
use Rattle.dp_pipe.specs.declared.forwarding.RunCause.{RunCause}
use Rattle.dp_pipe.specs.declared.forwarding.RunCause.TheVariants.{Memory, NoRoom, In, Out}
use Rattle.dp_pipe.specs.declared.running.RunFault.{RunFault}
use Rattle.dp_pipe.specs.Running.{answer_of}
use Rattle.dp_counts.specs.Report.{report_text}

-- the status of a run that stopped: 4 for lack of memory, else 3
abbrev pub status_of_cause : RunCause → ℕ
status_of_cause Memory = 4
status_of_cause _ = 3

-- the status of a run: 0 if it reached its end
abbrev pub status_of : Result ⊤ RunCause → ℕ
status_of (Ok done) = 0
status_of (Err cause) = status_of_cause cause

-- the line of a run that stopped, without its newline
abbrev pub stop_text : RunCause → List ℕ
stop_text Memory = codes "fault: memory"
stop_text NoRoom = codes "fault: region"
stop_text (In port error) = codes "fault: input " ++ (decimal port ++ (codes " cause " ++ decimal (number_of error)))
stop_text (Out port) = codes "fault: output " ++ decimal port

-- the lines on why a run stopped begin with that line
abbrev pub stop_lines : Result ⊤ RunCause → List ℕ → List ℕ
stop_lines (Ok done) more = []
stop_lines (Err cause) more = (stop_text cause ++ 10 ∷ []) ++ more

-- the report that is printed; none for a run that ran out of memory
abbrev pub report_for : RunCause → Report → Option Report
report_for Memory report = None
report_for cause report = Some report

abbrev pub printed_of : Result Report RunFault → Option Report
printed_of (Ok report) = Some report
printed_of (Err f) = report_for f.cause f.report

abbrev pub printed_text : Result Report RunFault → List ℕ
printed_text answer = option_map_or report_text (printed_of answer) []

-- a whole text has these bytes
abbrev pub Reads : Text → List ℕ → Type 0
Reads text bytes = text.has_failed ≡ false → text.bytes.items ≡ bytes

-- one text after the other, where there was memory for both
abbrev pub IsBoth : Text → Text → Text → Type 0
IsBoth first more both =
    both.has_failed ≡ false → (first.has_failed ≡ false) × (more.has_failed ≡ false) × (both.bytes.items ≡ first.bytes.items ++ more.bytes.items)

-- The parts of what is said of a run, in their order on one stream.
pub record Parts : Type 0 where
  -- how many records of each port were read
  pub totals : List ℕ
  -- the report, or the document in its place
  pub report : List ℕ
  -- on why the run stopped, after the first line
  pub more : List ℕ
  pub counts : List ℕ
  -- what was lost, and what helps
  pub notes : List ℕ

-- standard output: nothing, if a capture goes there
abbrev pub out_of : Bool → Parts → List ℕ
out_of true parts = []
out_of false parts = parts.report ++ parts.counts

-- standard error: everything, if a capture goes to standard output
abbrev pub err_of : Bool → List ℕ → Parts → List ℕ
err_of true stop parts = (((parts.totals ++ parts.report) ++ stop) ++ parts.counts) ++ parts.notes
err_of false stop parts = (parts.totals ++ stop) ++ parts.notes

-- A run with this result was said, as a document or as text, if there was memory. The report as text is exact.
pub record IsSaid (is_json is_taken : Bool) (answer : Result Report RunFault) (reply : Reply) : Type 0 where
  pub parts : Parts
  pub report : is_json ≡ false → parts.report ≡ printed_text answer
  pub out : reply.out.bytes.items ≡ out_of is_taken parts
  pub err : reply.err.bytes.items ≡ err_of is_taken (stop_lines (answer_of answer) parts.more) parts

abbrev pub IsReplied : Bool → Bool → Result Report RunFault → Reply → Type 0
IsReplied is_json is_taken answer reply = IsWhole reply → IsSaid is_json is_taken answer reply

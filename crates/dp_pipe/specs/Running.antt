-- The result of the run of a pipeline: what it read, its run of packets, what it wrote, and its report.
use Rattle.std.specs.Prelude.{◌≡◌, ℕ, ◌+◌, ◌<◌, ◌≤◌, ◌⊎◌, List, [], ◌∷◌, length, map, take, replicate, slice_get, Result, Ok, Err, ⊤}
use Rattle.std.specs.List.{AllByRecursion}
use Rattle.dp_pcap.specs.declared.format.TheConstants.{HEADER_SIZE}
use Rattle.dp_pcap.specs.declared.time.Unit.{Unit as TimeUnit}
use Rattle.dp_pcap.specs.declared.error.PcapError.{PcapError}
use Rattle.dp_pcap.specs.Source.{WhereKnown, HeaderAnswers, IsStart}
use Rattle.dp_pcap.specs.Text.{header_text}
use Rattle.dp_model.specs.Environments.{Environment}
use Rattle.dp_model.specs.Machine.{Setting}
use Rattle.dp_model.specs.Runs.{Nodes}
use Rattle.dp_model.specs.Starts as starts
use Rattle.dp_engine.specs.declared.report.InputState.{InputState}
use Rattle.dp_engine.specs.declared.report.InputState.TheVariants.{Open}
use Rattle.dp_engine.specs.declared.report.PortReport.{PortReport}
use Rattle.dp_engine.specs.declared.report.Report.{Report}
use Rattle.dp_engine.specs.Engines.{EngineState, no_tallies, flushed}
use Rattle.dp_engine.specs.Needs.{bytes_needed}
use Rattle.dp_engine.specs.Reports.{port_report, IsWhole}
use Rattle.dp_engine.specs.Schemes.{nodes_of}
use Rattle.dp_engine.specs.Steps.{setting_of}
use Rattle.dp_engine.specs.Tallies.{refused_of}
use Rattle.dp_pipe.specs.Devices.{Device, Transfer, IsGiven, IsGivenPart, At}
use Rattle.dp_pipe.specs.declared.forwarding.RunCause.{RunCause}
use Rattle.dp_pipe.specs.declared.forwarding.RunCause.TheVariants.{Memory, NoRoom, In, Out}
use Rattle.dp_pipe.specs.declared.forwarding.InputProgress.{InputProgress}
use Rattle.dp_pipe.specs.declared.running.RunFault.{RunFault}
use Rattle.dp_pipe.specs.Forwarding.{Input, AreRead, unit_for, units_of, AreRounds}
use Rattle.dp_load.specs.Pipelines.{Plan}

-- ---- the run of packets

-- the setting of a pipeline's node runs, with these allocation calls refused, and its programs
abbrev pub setting_in : Plan → List ℕ → Setting
setting_in p pattern = setting_of p.env p.tables pattern

abbrev pub programs_in : Plan → Nodes
programs_in p = nodes_of p.env p.nodes

-- ---- the report

-- the counts of a pipeline before any record is read
pub record IsIdle (env : Environment) (r : Report) : Type 0 where
  pub ports : r.ports.items ≡ map (λ _. port_report Open no_tallies) env.ports
  pub rings : r.rings.items ≡ map (λ _. 0) env.rings
  pub pools : IsWhole env r
  pub calls : r.calls ≡ 0
  pub refused : r.refused ≡ 0
  pub cut : r.cut ≡ 0

-- the counts of ports with how far their inputs were read
abbrev pub with_states : List InputState → List PortReport → List PortReport
with_states (state ∷ states) (n ∷ ports) = record n { state = state } ∷ with_states states ports
with_states [] ports = ports
with_states (state ∷ states) [] = []

-- all buffers are free, whatever is returned
abbrev pub AllFree : Environment → Result Report RunFault → Type 0
AllFree env (Ok report) = IsWhole env report
AllFree env (Err fault) = IsWhole env fault.report

-- ---- headers

-- the inputs of sources that have read no record yet
abbrev pub begun : InputProgress → Input
begun p = record { unit = p.source.unit; records = []; state = p.state }

abbrev pub all_begun : List InputProgress → List Input
all_begun progress = map begun progress

-- no record was read of these inputs, which are open
abbrev pub AreUnread : List Input → Type 0
AreUnread inputs = AllByRecursion (λ (i : Input). (i.records ≡ []) × (i.state ≡ Open)) inputs

-- the first n readers have read a header
abbrev pub HeadersRead : ℕ → List Device → List Device → Type 0
HeadersRead n had left = (inputs : List Input) × (length inputs ≡ n) × AreUnread inputs × AreRead had left inputs

-- a reader gave bytes that are not a header, or failed inside one, in at most one call for each byte of a header
pub record ReadsBadHeader (error : PcapError) (old new : Device) : Type 0 where
  pub answers : WhereKnown old.bytes new.bytes (λ bytes rest. HeaderAnswers bytes rest (Err error))
  pub calls : new.calls ≤ old.calls + HEADER_SIZE

-- the header of this port's input is the first with a fault, and the readers after it were not called
pub record HasHeaderFault (had left : List Device) (port : ℕ) (error : PcapError) : Type 0 where
  pub there : port < length had
  pub many : length left ≡ length had
  pub before : HeadersRead port had left
  pub fault : At had left port (ReadsBadHeader error)
  pub after : (q : ℕ) → port < q → slice_get left q ≡ slice_get had q

-- each writer was given a header
abbrev pub HeadersWritten : TimeUnit → List Device → List Device → Type 0
HeadersWritten unit held holds = (q : ℕ) → At held holds q (λ old new. IsGiven old new (header_text unit))

-- the header of this port's output is the first that was not written whole: those before it were, and none after it
pub record HeadersStopped (unit : TimeUnit) (held holds : List Device) (port : ℕ) : Type 0 where
  pub there : port < length held
  pub many : length holds ≡ length held
  pub before : (q : ℕ) → q < port → At held holds q (λ old new. IsGiven old new (header_text unit))
  pub own : At held holds port (λ old new. IsGivenPart old new (header_text unit))
  pub after : (q : ℕ) → port < q → slice_get holds q ≡ slice_get held q

-- a source that has read no record yet, of an input that is open
pub record IsBegun (p : InputProgress) : Type 0 where
  pub source : IsStart p.source
  pub state : p.state ≡ Open

-- why not all headers were read, or not all were written
abbrev pub IsHeaderCause : List Device → List Device → RunCause → Type 0
IsHeaderCause had left (In port error) = HasHeaderFault had left port error
IsHeaderCause had left cause = ⊥

abbrev pub IsWriteCause : TimeUnit → List Device → List Device → RunCause → Type 0
IsWriteCause unit held holds (Out port) = HeadersStopped unit held holds port
IsWriteCause unit held holds cause = ⊥

-- ---- an open engine

-- A header was at fault, or not written whole, and no record was read.
abbrev pub HeadersFail : EngineState → EngineState → Transfer → List InputProgress → Result ⊤ RunCause → Type 0
HeadersFail before after t progress (Err (In port error)) =
    HasHeaderFault t.had t.left port error × (t.holds ≡ t.held) × AllByRecursion IsBegun progress × (after ≡ before)
HeadersFail before after t progress (Err (Out port)) =
    (length progress ≡ length before.setting.env.ports) × AreRead t.had t.left (all_begun progress)
    × HeadersStopped (unit_for (units_of (all_begun progress))) t.held t.holds port × AllByRecursion IsBegun progress × (after ≡ before)
HeadersFail before after t progress answer = ⊥

-- All headers were written, in the one unit of the records, and then all rounds were taken.
pub record RoundsMade (before after : EngineState) (t : Transfer) (progress : List InputProgress) (answer : Result ⊤ RunCause) : Type 0 where
  pub unit : TimeUnit
  pub mids : List Device
  pub mids_many : length mids ≡ length t.held
  pub headers : HeadersWritten unit t.held mids
  pub rounds : AreRounds unit before after (record t { held = mids }) progress answer

-- what is known after the headers are read and written and all rounds are taken, by the result
abbrev pub GoesForward : EngineState → EngineState → Transfer → List InputProgress → Result ⊤ RunCause → Type 0
GoesForward before after t progress answer = HeadersFail before after t progress answer ⊎ RoundsMade before after t progress answer

-- the counts of an engine whose inputs were read so far
pub record IsReportOf (engine : EngineState) (progress : List InputProgress) (r : Report) : Type 0 where
  pub ports : r.ports.items ≡ with_states (map (λ (p : InputProgress). p.state) progress)
      (map (port_report Open) (take (length engine.setting.env.ports) engine.tallies))
  pub rings : r.rings.items ≡ take (length engine.setting.env.rings) (flushed engine).left
  pub pools : IsWhole engine.setting.env r
  pub calls : r.calls ≡ engine.world.calls
  pub refused : r.refused ≡ refused_of engine.setting.pattern engine.world.calls
  pub cut : r.cut ≡ engine.world.cuts

-- the report of a result, and the outcome of its run
abbrev pub report_of : Result Report RunFault → Report
report_of (Ok report) = report
report_of (Err fault) = fault.report

abbrev pub answer_of : Result Report RunFault → Result ⊤ RunCause
answer_of (Ok report) = Ok tt
answer_of (Err fault) = Err fault.cause

-- ---- the result

-- an engine of a pipeline before its first turn: its world has no packets
pub record IsFirst (p : Plan) (pattern : List ℕ) (first : EngineState) : Type 0 where
  pub room : bytes_needed p.env ≤ p.region
  pub setting : first.setting ≡ setting_in p pattern
  pub tables_are : first.tables ≡ p.tables
  pub nodes : first.nodes ≡ programs_in p
  pub start : starts.IsStart p.env first.world
  pub turns : first.turns ≡ 0
  pub tallies : first.tallies ≡ replicate 8 no_tallies
  pub left : first.left ≡ replicate 8 0

-- A run of a pipeline whose engine was opened: the engine before its first turn and after the last one, how far each input was read, and the report.
pub record RanOn (p : Plan) (pattern : List ℕ) (t : Transfer) (answer : Result Report RunFault) : Type 0 where
  pub first : EngineState
  pub is_first : IsFirst p pattern first
  pub last : EngineState
  pub progress : List InputProgress
  pub went : GoesForward first last t progress (answer_of answer)
  pub reported : IsReportOf last progress (report_of answer)

-- why no engine was opened; whether there is room is known before any memory is requested
abbrev pub IsUnopened : Plan → RunCause → Type 0
IsUnopened p Memory = bytes_needed p.env ≤ p.region
IsUnopened p NoRoom = p.region < bytes_needed p.env
IsUnopened p cause = ⊥

abbrev pub Unopened : Plan → Result Report RunFault → Type 0
Unopened p (Ok report) = ⊥
Unopened p (Err fault) = IsUnopened p fault.cause × IsIdle p.env fault.report

-- the result of a run in terms of its engine
abbrev pub RunAnswers : Plan → List ℕ → Transfer → Result Report RunFault → Type 0
RunAnswers p pattern t answer = RanOn p pattern t answer ⊎ Unopened p answer

-- The promise of the run of a pipeline, from captures to captures.
use Rattle.std.specs.Prelude.{◌≡◌, ℕ, ◌+◌, ◌==◌, ◌<◌, ◌≤◌, ◌⊎◌, Bool, nat_lt, if◌then◌else◌, List, [], ◌∷◌, ◌++◌, length, take, Some, slice_get}
use Rattle.std.specs.Prelude.{◌↔◌, Result, Err, IfOk, IfErr, IsOk}
use Rattle.std.specs.Io.KnownBytes.{Appends}
use Rattle.dp_pcap.specs.declared.time.Time.{Time}
use Rattle.dp_pcap.specs.declared.time.Unit.{Unit as TimeUnit}
use Rattle.dp_pcap.specs.declared.error.PcapError.{PcapError}
use Rattle.dp_pcap.specs.Capture.{PacketRecord}
use Rattle.dp_pcap.specs.Text.{text, record_text}
use Rattle.dp_model.specs.Machine.{World}
use Rattle.dp_model.specs.Runs.{Arrival, Outcome, Turn, Run, NeverStuck, records_at, joined, with_empty_outboxes, left_in_rings}
use Rattle.dp_model.specs.Safety.{Beginning, IsOfRun}
use Rattle.dp_model.specs.Starts.{IsStart}
use Rattle.dp_model.specs.CopyMachine.{Captures}
use Rattle.dp_engine.specs.declared.report.InputState.{InputState}
use Rattle.dp_engine.specs.declared.report.PortReport.{PortReport}
use Rattle.dp_engine.specs.declared.report.Report.{Report}
use Rattle.dp_engine.specs.Needs.{bytes_needed}
use Rattle.dp_engine.specs.Reports.{IsWhole}
use Rattle.dp_engine.specs.Steps.{routes_of}
use Rattle.dp_engine.specs.Tallies.{how_many, is_got, is_nobuf, is_oversize, refused_of}
use Rattle.dp_pipe.specs.Devices.{Device, Kind, Transfer, IsGiven, At, AllSound, AllFared, devices, transfer, failed_reader, failed_writer}
use Rattle.dp_pipe.specs.declared.forwarding.RunCause.{RunCause}
use Rattle.dp_pipe.specs.declared.forwarding.RunCause.TheVariants.{Memory, NoRoom, In, Out}
use Rattle.dp_pipe.specs.declared.running.RunFault.{RunFault}
use Rattle.dp_load.specs.Pipelines.{Plan}
use Rattle.dp_pipe.specs.Forwarding.{Input, AreRead, AskedUntil, HasInputFault, arrivals_of, capture_at, AreOver, unit_for, units_of}
use Rattle.dp_pipe.specs.Running.{setting_in, programs_in, IsIdle, AreUnread, HasHeaderFault, HeadersStopped, answer_of}

-- ---- a run of packets

-- A run of a pipeline's programs on these records, with the calls of the pattern refused: from a world without packets, the outcome of each
-- allocation call, the outcome of each record, and what each port sent, with the record's time. No node run in it is ever stuck. And what the ports
-- sent is what they send in the machine in which each packet has its own bytes, on the same records, given the same outcomes of allocation calls.
pub record PacketRun (p : Plan) (pattern : List ℕ) (arrivals : List (Arrival Time)) : Type 0 where
  pub first : World
  pub start : IsStart p.env first
  pub answers : List Bool
  pub outcomes : List Outcome
  pub captures : List (List (Time × List ℕ))
  pub last : World
  pub run : Run (setting_in p pattern) (programs_in p) arrivals first (record { answers = answers; outcomes = outcomes; captures = captures }) last
  pub never_stuck : (b : Beginning) → IsOfRun (setting_in p pattern) (programs_in p) arrivals first b →
      NeverStuck (setting_in p pattern) b.program b.packet b.number b.world
  pub copies : Captures p.env (routes_of p.tables) (programs_in p) arrivals answers captures last.cuts

-- ---- what was written

-- each writer was given these bytes
abbrev pub AreGiven : List Device → List Device → (ℕ → List ℕ) → Type 0
AreGiven held holds bytes = (port : ℕ) → At held holds port (λ old new. IsGiven old new (bytes port))

-- the whole capture of a port: the header, and what it sent
abbrev pub capture_text : TimeUnit → List (List (Time × List ℕ)) → ℕ → List ℕ
capture_text unit captures port = text unit (capture_at captures port)

-- ---- the report

-- the outcomes of the records of a port
abbrev pub outcomes_at : ℕ → List (Arrival Time) → List Outcome → List Outcome
outcomes_at port [] outcomes = []
outcomes_at port (a ∷ arrivals) [] = []
outcomes_at port (a ∷ arrivals) (o ∷ outcomes) = if a.port == port then o ∷ outcomes_at port arrivals outcomes else outcomes_at port arrivals outcomes

-- the counts of a port: how many of its records were received, got no buffer and were too large, how many records were written whole, and how far its
-- input was read
abbrev pub port_numbers : List Outcome → ℕ → InputState → PortReport
port_numbers outcomes sent state = record {
  received = how_many is_got outcomes;
  nobuf = how_many is_nobuf outcomes;
  oversize = how_many is_oversize outcomes;
  sent = sent;
  state = state;
}

-- the counts of a run on what was read of these inputs, in which each port has written this many records whole
pub record HasRunNumbers (p : Plan) (pattern : List ℕ) (arrivals : List (Arrival Time)) (run : PacketRun p pattern arrivals) (inputs : List Input) (sent : ℕ →
    ℕ) (r : Report) : Type 0 where
  pub many : length r.ports.items ≡ length p.env.ports
  pub ports : (port : ℕ) (i : Input) → slice_get inputs port ≡ Some i
      → slice_get r.ports.items port ≡ Some (port_numbers (outcomes_at port arrivals run.outcomes) (sent port) i.state)
  -- the packets that were left in rings
  pub rings : r.rings.items ≡ left_in_rings run.last
  -- all buffers are free
  pub pools : IsWhole p.env r
  pub calls : r.calls ≡ run.last.calls
  pub refused : r.refused ≡ refused_of pattern run.last.calls
  pub cut : r.cut ≡ run.last.cuts

-- ---- everything was forwarded

-- Each input was read to its end, a whole capture or one that is cut short; there was a run on the records of all inputs, record k of each port in
-- port order, round by round; and each writer was given the whole capture of its port, in nanoseconds if any input has them.
pub record Forwarded (p : Plan) (pattern : List ℕ) (t : Transfer) (r : Report) : Type 0 where
  pub room : bytes_needed p.env ≤ p.region
  pub inputs : List Input
  pub many : length inputs ≡ length p.env.ports
  pub read : AreRead t.had t.left inputs
  pub ended : AreOver inputs
  pub run : PacketRun p pattern (arrivals_of inputs)
  pub wrote : AreGiven t.held t.holds (capture_text (unit_for (units_of inputs)) run.captures)
  pub numbers : HasRunNumbers p pattern (arrivals_of inputs) run inputs (λ port. length (capture_at run.captures port)) r

-- ---- an input is at fault

-- The header of this port's input is the first with a fault: nothing was written.
pub record HeaderRefused (p : Plan) (t : Transfer) (port : ℕ) (error : PcapError) (r : Report) : Type 0 where
  pub room : bytes_needed p.env ≤ p.region
  pub fault : HasHeaderFault t.had t.left port error
  pub kept : t.holds ≡ t.held
  pub idle : IsIdle p.env r

-- The input of this port is the first with a fault, after a record: there was a run on the records before, and each writer was given the whole
-- capture of its port in that run.
pub record StoppedReading (p : Plan) (pattern : List ℕ) (t : Transfer) (port : ℕ) (error : PcapError) (r : Report) : Type 0 where
  pub room : bytes_needed p.env ≤ p.region
  pub inputs : List Input
  pub many : length inputs ≡ length p.env.ports
  pub fault : HasInputFault t.had t.left inputs port error
  pub run : PacketRun p pattern (arrivals_of inputs)
  pub wrote : AreGiven t.held t.holds (capture_text (unit_for (units_of inputs)) run.captures)
  pub numbers : HasRunNumbers p pattern (arrivals_of inputs) run inputs (λ port. length (capture_at run.captures port)) r

-- ---- a writer fails

-- The header of this port's output was not written whole: the headers before it were, and none after it was; no record was read.
pub record HeaderUnwritten (p : Plan) (t : Transfer) (port : ℕ) (r : Report) : Type 0 where
  pub room : bytes_needed p.env ≤ p.region
  pub inputs : List Input
  pub many : length inputs ≡ length p.env.ports
  pub read : AreRead t.had t.left inputs
  pub none : AreUnread inputs
  pub stopped : HeadersStopped (unit_for (units_of inputs)) t.held t.holds port
  pub idle : IsIdle p.env r

-- the first n records of a capture were written whole, and a proper part of the next
pub record WroteFront (unit : TimeUnit) (records : List PacketRecord) (sent : ℕ) (old new : Device) : Type 0 where
  pub next : PacketRecord
  pub next_is : slice_get records sent ≡ Some next
  pub bytes : ℕ
  pub part : bytes < length (record_text unit next)
  pub wrote : Appends old.bytes new.bytes (text unit (take sent records) ++ take bytes (record_text unit next))
  pub calls : new.calls ≤ old.calls + length (text unit (take (sent + 1) records))

-- a run with one more record: its turn, and then the drains of all ports
pub record GoesOnBy (p : Plan) (pattern : List ℕ) (before : List (Arrival Time)) (last : Arrival Time) (earlier : PacketRun p pattern before)
    (run : PacketRun p pattern (before ++ last ∷ [])) : Type 0 where
  pub first : run.first ≡ earlier.first
  pub mid : World
  pub outcome : Outcome
  pub runs : ℕ
  pub answers : List Bool
  pub turn : Turn (setting_in p pattern) (programs_in p) last.port last.bytes earlier.last outcome runs answers mid
  pub answers_are : run.answers ≡ earlier.answers ++ answers
  pub outcomes_are : run.outcomes ≡ earlier.outcomes ++ outcome ∷ []
  pub captures_are : run.captures ≡ joined earlier.captures (records_at last.time mid)
  pub last_is : run.last ≡ with_empty_outboxes mid

-- how many records each port has written whole, if the writer of one port fails: the ports before it all of theirs, it this many, and those
-- after it what was sent before the last record
abbrev pub sent_until : ℕ → ℕ → List (List (Time × List ℕ)) → List (List (Time × List ℕ)) → ℕ → ℕ
sent_until port own captures earlier q =
    if nat_lt q port then length (capture_at captures q) else if q == port then own else length (capture_at earlier q)

-- The writer of this port failed in the drains after a record, the last that was read; the inputs were asked in turn until then. There was a run on
-- the records before, and a run through the last. The writers before this one were given the whole capture of their port in the run through the last
-- record, and those after it the whole capture in the run before; this one was given a prefix of its capture in the run through the last record,
-- with all that it had sent before.
pub record StoppedWriting (p : Plan) (pattern : List ℕ) (t : Transfer) (port : ℕ) (r : Report) : Type 0 where
  pub room : bytes_needed p.env ≤ p.region
  pub inputs : List Input
  pub many : length inputs ≡ length p.env.ports
  pub read : AreRead t.had t.left inputs
  pub before : List (Arrival Time)
  pub last : Arrival Time
  pub arrivals_are : arrivals_of inputs ≡ before ++ last ∷ []
  pub round : ℕ
  pub order : AskedUntil round (last.port + 1) inputs
  pub earlier : PacketRun p pattern before
  pub run : PacketRun p pattern (before ++ last ∷ [])
  pub goes_on : GoesOnBy p pattern before last earlier run
  pub there : port < length p.env.ports
  pub ahead : (q : ℕ) → q < port → At t.held t.holds q (λ old new. IsGiven old new (capture_text (unit_for (units_of inputs)) run.captures q))
  pub sent : ℕ
  pub not_less : length (capture_at earlier.captures port) ≤ sent
  pub own : At t.held t.holds port (WroteFront (unit_for (units_of inputs)) (capture_at run.captures port) sent)
  pub after : (q : ℕ) → port < q → At t.held t.holds q (λ old new. IsGiven old new (capture_text (unit_for (units_of inputs)) earlier.captures q))
  pub numbers : HasRunNumbers p pattern (before ++ last ∷ []) run inputs (sent_until port sent run.captures earlier.captures) r

-- ---- the result

-- Why a run stopped, and what it did before. If memory ran out, or the region is smaller than the engine needs, there was no run.
abbrev pub StoppedBy : Plan → List ℕ → Transfer → RunCause → Report → Type 0
StoppedBy p pattern t Memory r = IsIdle p.env r
StoppedBy p pattern t NoRoom r = (p.region < bytes_needed p.env) × IsIdle p.env r
StoppedBy p pattern t (In port error) r = HeaderRefused p t port error r ⊎ StoppedReading p pattern t port error r
StoppedBy p pattern t (Out port) r = HeaderUnwritten p t port r ⊎ StoppedWriting p pattern t port r

-- What every run promises, whatever it is shown to: its captures and its report, or why it stopped, and which of its devices failed.
pub record RunPromise {R W : Type 0} (p : Plan) (pattern : List ℕ) (readers : Kind R) (ins ins' : List R) (writers : Kind W) (outs outs' : List W)
    (answer : Result Report RunFault) : Type 0 where
  pub forwarded : IfOk answer (Forwarded p pattern (transfer (devices readers ins) (devices readers ins') (devices writers outs) (devices writers outs')))
  pub stopped : IfErr answer (λ (f : RunFault). StoppedBy p pattern (transfer (devices readers ins) (devices readers ins') (devices writers outs)
      (devices writers outs')) f.cause f.report)
  -- whether there is room is known before memory is asked for
  pub no_room : answer_of answer ≡ Err NoRoom ↔ p.region < bytes_needed p.env
  pub untouched : IfErr answer (λ (f : RunFault). (f.cause ≡ Memory) ⊎ (f.cause ≡ NoRoom) → (ins' ≡ ins) × (outs' ≡ outs))
  -- where all went well, no device is broken
  pub sound : IsOk answer → AllSound readers.is_broken ins' × AllSound writers.is_broken outs'
  -- a device is broken if it was before, or if the result names it; one call of the named one failed, and none of the others
  pub fared_readers : AllFared readers.is_broken readers.failures (failed_reader (answer_of answer)) ins ins'
  pub fared_writers : AllFared writers.is_broken writers.failures (failed_writer (answer_of answer)) outs outs'

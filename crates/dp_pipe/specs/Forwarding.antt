-- Runs from captures to captures: what inputs give, what ports write, and where a run stops.
use Rattle.std.specs.Prelude.{◌≡◌, ◌≢◌, ℕ, zero, suc, ◌+◌, ◌<◌, ◌≤◌, ◌==◌, Bool, true, false, nat_lt, if◌then◌else◌, List, [], ◌∷◌, ◌++◌, length, map}
use Rattle.std.specs.Prelude.{flat_map, take, Option, Some, slice_get, Result, Ok, Err, ⊤}
use Rattle.std.specs.List.{list_any, AllByRecursion}
use Rattle.std.specs.Option.{option_map_or}
use Rattle.dp_pcap.specs.declared.format.TheConstants.{HEAD_SIZE, MAX_RECORD, MAX_RECORDS}
use Rattle.dp_pcap.specs.declared.time.Time.{Time}
use Rattle.dp_pcap.specs.declared.time.Unit.{Unit as TimeUnit}
use Rattle.dp_pcap.specs.declared.time.Unit.TheVariants.{Micro, Nano}
use Rattle.dp_pcap.specs.declared.error.PcapError.{PcapError}
use Rattle.dp_pcap.specs.declared.error.PcapError.TheVariants.{Read}
use Rattle.dp_pcap.specs.SourceState.{SourceState}
use Rattle.dp_pcap.specs.Capture.{PacketRecord, IsCapture}
use Rattle.dp_pcap.specs.Capture as capture
use Rattle.dp_pcap.specs.Source.{WhereKnown, HasRead, FailsAfter, Continues, IsInRange, Moves, PullsFor, max_pulls}
use Rattle.dp_pcap.specs.declared.source.Next.{Next}
use Rattle.dp_pcap.specs.declared.source.Next.TheVariants.{Record, End}
use Rattle.dp_pcap.specs.declared.source.Next.TheVariants as next
use Rattle.dp_pcap.specs.Text.{text, record_text}
use Rattle.dp_model.specs.Packets.{Packet}
use Rattle.dp_model.specs.Machine.{World}
use Rattle.dp_model.specs.Runs.{Arrival, Outcome, Turn, Run, records_at, interleaved}
use Rattle.dp_engine.specs.declared.report.InputState.{InputState}
use Rattle.dp_engine.specs.declared.report.InputState.TheVariants.{Open, Whole, Cut}
use Rattle.dp_engine.specs.declared.report.Tallies.{Tallies}
use Rattle.dp_engine.specs.Drains.{captured, WrotePart}
use Rattle.dp_engine.specs.Tallies.{counted}
use Rattle.dp_engine.specs.Engines.{EngineState, tallies_at, counted_at, drained}
use Rattle.dp_pipe.specs.Devices.{Device, Transfer, IsGiven, At, transfer}
use Rattle.dp_pipe.specs.declared.forwarding.TheConstants.{MAX_RUN_TURNS}
use Rattle.dp_pipe.specs.declared.forwarding.RunCause.{RunCause}
use Rattle.dp_pipe.specs.declared.forwarding.RunCause.TheVariants.{In, Out}
use Rattle.dp_pipe.specs.declared.forwarding.InputProgress.{InputProgress}
use Rattle.dp_pipe.specs.declared.forwarding.OpenInputs.{OpenInputs}
use Rattle.dp_pipe.specs.declared.forwarding.OpenInputs.TheVariants.{Zero, One, Several}

-- ---- inputs

-- what was read of an input: its unit of time, its records, and whether its end was reached
pub record Input : Type 0 where
  pub unit : TimeUnit
  pub records : List PacketRecord
  pub state : InputState

-- if the input is open, this was read of these bytes and the rest is left; if it has ended, the bytes are this capture
abbrev pub InputGives : InputState → TimeUnit → List PacketRecord → List ℕ → List ℕ → Type 0
InputGives Open unit records bytes rest = (s : SourceState) × HasRead bytes s records rest × (s.unit ≡ unit)
InputGives Whole unit records bytes rest = IsCapture bytes unit records capture.Ending.Whole
InputGives (Cut byte) unit records bytes rest = IsCapture bytes unit records (capture.Ending.Cut byte)

-- the maximum number of calls of a reader that find the end of its input
abbrev pub last_pulls : InputState → ℕ
last_pulls Open = 0
last_pulls Whole = 1
last_pulls (Cut byte) = HEAD_SIZE + MAX_RECORD

-- the same, apart from one call for each byte that came
abbrev pub end_pulls : InputState → ℕ
end_pulls Open = 0
end_pulls Whole = 1
end_pulls (Cut byte) = 1

-- the bytes that came took at most one call each, and the end of the input one more; the rest is left
abbrev pub PullsUpTo : InputState → ℕ → ℕ → List ℕ → List ℕ → Type 0
PullsUpTo state old new bytes rest = (came : List ℕ) × (bytes ≡ came ++ rest) × (new ≤ old + (length came + end_pulls state))

-- this input was read, with at most one call for each byte of its header and its records, and those that find its end
pub record IsRead (i : Input) (old new : Device) : Type 0 where
  pub gives : WhereKnown old.bytes new.bytes (InputGives i.state i.unit i.records)
  pub calls : new.calls ≤ old.calls + length (text i.unit i.records) + last_pulls i.state
  -- where its bytes are known: one for each that came, and one that found its end
  pub pulls : WhereKnown old.bytes new.bytes (PullsUpTo i.state old.calls new.calls)

-- each of these inputs was read
abbrev pub AreRead : List Device → List Device → List Input → Type 0
AreRead had left inputs = (port : ℕ) (i : Input) → slice_get inputs port ≡ Some i → At had left port (IsRead i)

-- a header and these records of these bytes were read, and then comes a fault: the reader failed within the next record, and the rest is left; or
-- what follows is refused
abbrev pub Refuses : TimeUnit → List PacketRecord → PcapError → List ℕ → List ℕ → Type 0
Refuses unit records Read bytes rest = (s : SourceState) × (s.unit ≡ unit) × FailsAfter bytes s records rest
Refuses unit records error bytes rest = IsCapture bytes unit records (capture.Ending.Refused error)

-- this input was read up to a fault, with at most one call for each byte of its header, its records, and one more record
pub record IsReadTo (i : Input) (error : PcapError) (old new : Device) : Type 0 where
  pub refuses : WhereKnown old.bytes new.bytes (Refuses i.unit i.records error)
  pub calls : new.calls ≤ old.calls + length (text i.unit i.records) + (HEAD_SIZE + MAX_RECORD)
  -- where its bytes are known: one for each that came, and one that failed
  pub pulls : WhereKnown old.bytes new.bytes (PullsFor (Err error) old.calls new.calls)

-- the unit of the outputs: nanoseconds if any input has them, else microseconds
abbrev pub is_nano : TimeUnit → Bool
is_nano Nano = true
is_nano Micro = false

abbrev pub unit_for : List TimeUnit → TimeUnit
unit_for units = if list_any is_nano units then Nano else Micro

abbrev pub units_of : List Input → List TimeUnit
units_of inputs = map (λ (i : Input). i.unit) inputs

-- the records of inputs in the order of a run: record k of each port, in port order, round by round
abbrev pub timed_records : Input → List (Time × List ℕ)
timed_records i = map (λ (r : PacketRecord). (r.time, r.bytes)) i.records

abbrev pub arrivals_of : List Input → List (Arrival Time)
arrivals_of inputs = interleaved (map timed_records inputs)

-- how often each input was read when this port comes next in a round
abbrev pub asked : ℕ → ℕ → ℕ → ℕ
asked round port q = if nat_lt q port then round + 1 else round

-- an open input gave a record each time it was asked; one that has ended did not give one the last time
abbrev pub AnswersSo : InputState → ℕ → ℕ → Type 0
AnswersSo Open given wanted = given ≡ wanted
AnswersSo Whole given wanted = given < wanted
AnswersSo (Cut byte) given wanted = given < wanted

-- all inputs were asked in turn until this port comes next in this round
abbrev pub AskedUntil : ℕ → ℕ → List Input → Type 0
AskedUntil round port inputs = (q : ℕ) (i : Input) → slice_get inputs q ≡ Some i → AnswersSo i.state (length i.records) (asked round port q)

-- ---- runs of an engine

-- the counts of a port in a run with these outcomes
abbrev pub tally_of : ℕ → List (Arrival Time) → List Outcome → Tallies → Tallies
tally_of port [] outcomes t = t
tally_of port (a ∷ arrivals) [] t = t
tally_of port (a ∷ arrivals) (o ∷ outcomes) t = tally_of port arrivals outcomes (if a.port == port then counted o t else t)

-- the captures of a run as they are written
abbrev pub capture_of : List (Time × List ℕ) → List PacketRecord
capture_of records = map captured records

-- a run on these arrivals, with these captures, leads from one engine to a later one, and was counted
pub record HasRun (before after : EngineState) (arrivals : List (Arrival Time)) (captures : List (List (Time × List ℕ))) : Type 0 where
  pub answers : List Bool
  pub outcomes : List Outcome
  pub run : Run before.setting before.nodes arrivals before.world (record { answers = answers; outcomes = outcomes; captures = captures }) after.world
  pub turns : after.turns ≡ before.turns + length arrivals
  pub each : length after.tallies ≡ length before.tallies
  pub tallies : (port : ℕ) (sent : List (Time × List ℕ)) → slice_get captures port ≡ Some sent
      → tallies_at after.tallies port ≡ record (tally_of port arrivals outcomes (tallies_at before.tallies port))
      { sent = (tallies_at before.tallies port).sent + length sent }
  pub stays : after ≡ record before { world = after.world; turns = after.turns; tallies = after.tallies }

-- the capture of a port in a run, as it is written
abbrev pub capture_at : List (List (Time × List ℕ)) → ℕ → List PacketRecord
capture_at captures port = option_map_or (map captured) (slice_get captures port) []

-- ---- outputs

-- the records of a capture, as they are written
abbrev pub records_text : TimeUnit → List PacketRecord → List ℕ
records_text unit records = flat_map (record_text unit) records

-- each writer was given the records of its port
abbrev pub AreWritten : TimeUnit → List Device → List Device → (ℕ → List PacketRecord) → Type 0
AreWritten unit held holds records = (port : ℕ) → At held holds port (λ old new. IsGiven old new (records_text unit (records port)))

-- ---- the course of a run

-- The run was on the records of these inputs, one for each port: each turn and each drain, and everything was written, in nanoseconds if any input
-- has them.
pub record RanOnInputs (unit : TimeUnit) (before after : EngineState) (held holds : List Device) (inputs : List Input) : Type 0 where
  pub inputs_many : length inputs ≡ length before.setting.env.ports
  pub unit_is : unit ≡ unit_for (units_of inputs)
  pub captures : List (List (Time × List ℕ))
  pub many : length captures ≡ length before.setting.env.ports
  pub run : HasRun before after (arrivals_of inputs) captures
  pub wrote : AreWritten unit held holds (capture_at captures)

-- the input of this port has a fault after its records, and the others were read in their turn
pub record HasInputFault (had left : List Device) (inputs : List Input) (port : ℕ) (error : PcapError) : Type 0 where
  pub round : ℕ
  pub order : AskedUntil round port inputs
  pub input : Input
  pub input_is : slice_get inputs port ≡ Some input
  pub is_open : input.state ≡ Open
  pub fault : At had left port (IsReadTo input error)
  pub others : (q : ℕ) (i : Input) → q ≢ port → slice_get inputs q ≡ Some i → At had left q (IsRead i)

-- every input has ended
abbrev pub AreOver : List Input → Type 0
AreOver inputs = AllByRecursion (λ (i : Input). i.state ≢ Open) inputs

-- ---- turns and drains of a run

-- a turn with these bytes at a port
pub record HasTurn (port : ℕ) (before after : EngineState) (bytes : List ℕ) : Type 0 where
  pub outcome : Outcome
  pub runs : ℕ
  pub answers : List Bool
  pub turn : Turn before.setting before.nodes port bytes before.world outcome runs answers after.world
  pub is : after ≡ record before { world = after.world; turns = before.turns + 1; tallies = counted_at port outcome before.tallies }
  -- each port has its transmit list
  pub lists : length after.world.outboxes ≡ length after.setting.env.ports

-- after a record there was a turn with its bytes; after any other result there was none
abbrev pub TurnsOn : ℕ → EngineState → EngineState → List ℕ → Result Next PcapError → Type 0
TurnsOn port before after bytes (Ok (Record time len)) = (len ≤ length bytes) × HasTurn port before after (take len bytes)
TurnsOn port before after bytes answer = after ≡ before

-- what comes next in a capture was read; if it is a record, a turn was taken
abbrev pub ReadsTurn : ℕ → EngineState → EngineState → SourceState → SourceState → Option (List ℕ) → Option (List ℕ) → Result Next PcapError → Type 0
ReadsTurn port before after source source' a b answer =
    (bytes : List ℕ) × WhereKnown a b (λ left rest. Continues source source' left rest bytes answer) × TurnsOn port before after bytes answer

-- where the bytes are known: a result that is no record took at most one call for each that came, and one that found the end or failed
abbrev pub LastPulls : Result Next PcapError → Device → Device → Type 0
LastPulls (Ok (Record time len)) old new = ⊤
LastPulls answer old new = WhereKnown old.bytes new.bytes (PullsFor answer old.calls new.calls)

-- a result took no more calls of a reader than the largest such result, and, where the bytes are known, than those that came
abbrev pub HasPulled : Result Next PcapError → Device → Device → Type 0
HasPulled answer old new = (new.calls ≤ old.calls + max_pulls answer) × LastPulls answer old new

-- what the drains at a time write at each port
abbrev pub drained_at : Time → World → ℕ → List PacketRecord
drained_at time w port = capture_at (records_at time w) port

-- the first n transmit lists are empty
abbrev pub first_emptied : ℕ → List (List Packet) → List (List Packet)
first_emptied zero lists = lists
first_emptied (suc n) [] = []
first_emptied (suc n) (packets ∷ lists) = [] ∷ first_emptied n lists

-- the drains of the first n ports: what each wrote, and what was counted for it
pub record DrainedFirst (n : ℕ) (unit : TimeUnit) (time : Time) (before after : EngineState) (held holds : List Device) : Type 0 where
  pub wrote : (q : ℕ) → At held holds q (λ old new. IsGiven old new (if nat_lt q n then records_text unit (drained_at time before.world q) else []))
  pub is : after ≡ record before { world = record before.world { outboxes = first_emptied n before.world.outboxes }; tallies = after.tallies }
  pub each : length after.tallies ≡ length before.tallies
  pub tallies : (q : ℕ) → q < length before.setting.env.ports
      → tallies_at after.tallies q ≡ record (tallies_at before.tallies q) {
        sent = (tallies_at before.tallies q).sent
            + (if nat_lt q n then length (drained_at time before.world q) else 0);
      }

-- the drains of all ports
abbrev pub DrainedAll : TimeUnit → Time → EngineState → EngineState → List Device → List Device → Type 0
DrainedAll unit time before after held holds = DrainedFirst (length before.setting.env.ports) unit time before after held holds

-- n records were written whole, and a part of the next, with at most one call for each byte
pub record DrainedPart (unit : TimeUnit) (records : List PacketRecord) (sent : ℕ) (old new : Device) : Type 0 where
  pub part : WrotePart old.bytes new.bytes unit records sent
  pub calls : new.calls ≤ old.calls + length (records_text unit (take (sent + 1) records))

-- the writer of a port failed in the drains: the writers before it wrote everything, it wrote a part, and those after it nothing
pub record DrainsStopped (unit : TimeUnit) (time : Time) (before after : EngineState) (held holds : List Device) (port : ℕ) : Type 0 where
  pub there : port < length before.setting.env.ports
  pub engine : EngineState
  pub mids : List Device
  pub first : DrainedFirst port unit time before engine held mids
  pub others : (q : ℕ) → q ≢ port → slice_get holds q ≡ slice_get mids q
  pub whole : ℕ
  pub own : At held holds port (DrainedPart unit (drained_at time before.world port) whole)
  pub is : after ≡ drained port whole engine

-- ---- inputs during a run

-- what a source has read of an input
abbrev pub HasReadSo : InputState → SourceState → List PacketRecord → List ℕ → List ℕ → Type 0
HasReadSo Open source records bytes rest = HasRead bytes source records rest
HasReadSo Whole source records bytes rest = IsCapture bytes source.unit records capture.Ending.Whole
HasReadSo (Cut byte) source records bytes rest = IsCapture bytes source.unit records (capture.Ending.Cut byte)

abbrev pub IsGoingOn : InputState → SourceState → ℕ → Type 0
IsGoingOn Open source count = (source.is_open ≡ true) × (source.given ≡ count)
IsGoingOn Whole source count = ⊤
IsGoingOn (Cut byte) source count = ⊤

-- an input, and the source that reads it
pub record IsProgressOf (p : InputProgress) (i : Input) : Type 0 where
  pub unit : p.source.unit ≡ i.unit
  pub state : p.state ≡ i.state
  pub goes_on : IsGoingOn i.state p.source (length i.records)
  pub few : length i.records ≤ MAX_RECORDS

-- this input was read by a source, with at most as many calls as `IsRead` says
pub record IsReadBy (i : Input) (source : SourceState) (old new : Device) : Type 0 where
  pub has : WhereKnown old.bytes new.bytes (HasReadSo i.state source i.records)
  pub calls : new.calls ≤ old.calls + length (text i.unit i.records) + last_pulls i.state
  pub pulls : WhereKnown old.bytes new.bytes (PullsUpTo i.state old.calls new.calls)

pub record AreProgressOf (had left : List Device) (progress : List InputProgress) (inputs : List Input) : Type 0 where
  pub many : length progress ≡ length inputs
  pub each : (q : ℕ) (p : InputProgress) (i : Input) → slice_get progress q ≡ Some p → slice_get inputs q ≡ Some i → IsProgressOf p i
  pub read : (q : ℕ) (p : InputProgress) (i : Input) → slice_get progress q ≡ Some p → slice_get inputs q ≡ Some i → At had left q (IsReadBy i p.source)

-- how many records all inputs have given
abbrev pub records_many : List Input → ℕ
records_many [] = 0
records_many (i ∷ inputs) = length i.records + records_many inputs

-- a run from an engine before its first turn to another one, in a round in which a port comes next
pub record RunUntil (unit : TimeUnit) (before after : EngineState) (t : Transfer) (progress : List InputProgress) (inputs : List Input)
    (round port : ℕ) : Type 0 where
  pub first : before.turns ≡ 0
  pub held_many : length t.held ≡ length before.setting.env.ports
  pub inputs_many : length inputs ≡ length before.setting.env.ports
  pub unit_is : unit ≡ unit_for (units_of inputs)
  pub progress_is : AreProgressOf t.had t.left progress inputs
  pub order : AskedUntil round port inputs
  pub total : length (arrivals_of inputs) ≡ records_many inputs
  pub captures : List (List (Time × List ℕ))
  pub many : length captures ≡ length before.setting.env.ports
  pub run : HasRun before after (arrivals_of inputs) captures
  pub wrote : AreWritten unit t.held t.holds (capture_at captures)

-- a run that has come to a port in a round, from some engine and some devices
pub record IsUnderway (unit : TimeUnit) (after : EngineState) (left holds : List Device) (progress : List InputProgress) (round port : ℕ) : Type 0 where
  pub before : EngineState
  pub had : List Device
  pub held : List Device
  pub inputs : List Input
  pub run : RunUntil unit before after (transfer had left held holds) progress inputs round port

-- ---- what a step of a run needs

-- a writer for each port, of which there are at most eight, the counts of eight ports, and a buffer that holds any record
pub record HasPlaces (e : EngineState) (writers size : ℕ) : Type 0 where
  pub many : writers ≡ length e.setting.env.ports
  pub few : writers ≤ 8
  pub counted : length e.tallies ≡ 8
  pub buf : MAX_RECORD ≤ size

-- the same, and an input and a reader for each port
pub record HasPorts (e : EngineState) (sources readers writers size : ℕ) : Type 0 where
  pub inputs : sources ≡ length e.setting.env.ports
  pub ins : readers ≡ length e.setting.env.ports
  pub places : HasPlaces e writers size

-- the input of a port can be asked: if it is open, so is its source, and eight inputs with the most records make no more turns than an engine takes
pub record CanAsk (e : EngineState) (port : ℕ) (input : InputProgress) (writers size : ℕ) : Type 0 where
  pub exists : port < length e.setting.env.ports
  pub places : HasPlaces e writers size
  pub opened : input.state ≡ Open → input.source.is_open ≡ true
  pub limit : input.state ≡ Open → e.turns + MAX_RECORDS ≤ MAX_RUN_TURNS + input.source.given

-- ---- one step of a run

-- what follows the result of an input: after a record all ports are drained
abbrev pub Follows : ℕ → TimeUnit → EngineState → EngineState → InputState → List Device → List Device → Result Next PcapError →
    Result ⊤ RunCause → Type 0
Follows port unit before after state held holds (Ok (Record time len)) (Ok done) = (state ≡ Open) × DrainedAll unit time before after held holds
Follows port unit before after state held holds (Ok (Record time len)) (Err cause) =
    (state ≡ Open) × (q : ℕ) × (cause ≡ Out q) × DrainsStopped unit time before after held holds q
Follows port unit before after state held holds (Ok End) answer = (state ≡ Whole) × (answer ≡ Ok tt) × (after ≡ before) × (holds ≡ held)
Follows port unit before after state held holds (Ok (next.Cut byte)) answer = (state ≡ Cut byte) × (answer ≡ Ok tt) × (after ≡ before) × (holds ≡ held)
Follows port unit before after state held holds (Err error) answer = (state ≡ Open) × (answer ≡ Err (In port error)) × (after ≡ before) × (holds ≡ held)

-- an open input is read
pub record Advances (port : ℕ) (unit : TimeUnit) (before after : EngineState) (p p' : InputProgress) (old new : Device) (held holds : List Device)
    (answer : Result ⊤ RunCause) : Type 0 where
  pub next : Result Next PcapError
  -- after the turn
  pub engine : EngineState
  pub read : ReadsTurn port before engine p.source p'.source old.bytes new.bytes next
  pub pulls : HasPulled next old new
  pub in_range : IsInRange p.source next
  pub moves : Moves p.source p'.source next
  pub follows : Follows port unit engine after p'.state held holds next answer

-- A writer failed in the drains after a turn. There was a run on all records but the last, whose output was all written; then a turn with the last
-- record; and then the drains after it, in port order, which stopped at one port. Until then the inputs were asked in turn.
pub record FailedAt (unit : TimeUnit) (e engine' : EngineState) (t : Transfer) (inputs : List Input) (port : ℕ) : Type 0 where
  pub inputs_many : length inputs ≡ length e.setting.env.ports
  pub unit_is : unit ≡ unit_for (units_of inputs)
  pub read : AreRead t.had t.left inputs
  pub before : List (Arrival Time)
  pub last : Arrival Time
  pub arrivals_are : arrivals_of inputs ≡ before ++ last ∷ []
  pub round : ℕ
  pub order : AskedUntil round (last.port + 1) inputs
  pub engine : EngineState
  pub captures : List (List (Time × List ℕ))
  pub many : length captures ≡ length e.setting.env.ports
  pub run : HasRun e engine before captures
  pub mids : List Device
  pub mids_many : length mids ≡ length t.held
  pub wrote : AreWritten unit t.held mids (capture_at captures)
  pub beyond : EngineState
  pub turn : HasTurn last.port engine beyond last.bytes
  pub stopped : DrainsStopped unit last.time beyond engine' mids t.holds port

-- a run stops in a round
abbrev pub StopsRun : TimeUnit → EngineState → EngineState → Transfer → List InputProgress → RunCause → Type 0
StopsRun unit before after t progress (In port error) =
    (inputs : List Input) × (map (λ (i : Input). i.state) inputs ≡ map (λ (p : InputProgress). p.state) progress)
    × RanOnInputs unit before after t.held t.holds inputs × HasInputFault t.had t.left inputs port error
StopsRun unit before after t progress (Out port) =
    (inputs : List Input) × (map (λ (i : Input). i.state) inputs ≡ map (λ (p : InputProgress). p.state) progress) × FailedAt unit before after t inputs port
StopsRun unit before after t progress cause = ⊥

-- a round, from a run in which its first port comes next
abbrev pub IsRound : TimeUnit → EngineState → EngineState → EngineState → Transfer → List InputProgress → ℕ → Result ⊤ RunCause → Type 0
IsRound unit e0 before after t progress round (Ok done) = (inputs : List Input) × RunUntil unit e0 after t progress inputs (round + 1) 0
IsRound unit e0 before after t progress round (Err cause) = StopsRun unit e0 after t progress cause

-- all rounds: at the end every input has ended
abbrev pub AreRounds : TimeUnit → EngineState → EngineState → Transfer → List InputProgress → Result ⊤ RunCause → Type 0
AreRounds unit before after t progress (Ok done) =
    (inputs : List Input) × (map (λ (i : Input). i.state) inputs ≡ map (λ (p : InputProgress). p.state) progress)
    × RanOnInputs unit before after t.held t.holds inputs × AreRead t.had t.left inputs × AreOver inputs
AreRounds unit before after t progress (Err cause) = StopsRun unit before after t progress cause

-- every input has ended
abbrev pub NoneIsOpen : List InputProgress → Type 0
NoneIsOpen progress = (q : ℕ) (p : InputProgress) → slice_get progress q ≡ Some p → p.state ≡ Open → ⊥

-- every input but that of this port has ended
abbrev pub OnlyIsOpen : ℕ → List InputProgress → Type 0
OnlyIsOpen port progress = (q : ℕ) (p : InputProgress) → slice_get progress q ≡ Some p → p.state ≡ Open → q ≡ port

-- no input, only that of this port, or several have not ended
abbrev pub AreOpen : OpenInputs → List InputProgress → Type 0
AreOpen Zero progress = NoneIsOpen progress
AreOpen (One port) progress = (port < length progress) × OnlyIsOpen port progress
AreOpen Several progress = ⊤

-- Internal: the input of this port and its reader, where every other input has ended
pub record IsAlone {R : Type 0} (port : ℕ) (p : InputProgress) (r : R) (progress : List InputProgress) (ins : List R) : Type 0 where
  pub many : length ins ≡ length progress
  pub input : slice_get progress port ≡ Some p
  pub reader : slice_get ins port ≡ Some r
  pub alone : OnlyIsOpen port progress

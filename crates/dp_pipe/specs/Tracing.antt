-- What a tracer is shown of a run, what is read for it, and the result of a traced run.
use Rattle.std.specs.Prelude.{◌≡◌, ◌≢◌, ℕ, ◌+◌, ◌<◌, ◌≤◌, ◌⊎◌, Option, Some, None, List, [], ◌∷◌, length, take, slice_get, Result, Ok, Err, ⊤}
use Rattle.std.specs.List.{AllByRecursion}
use Rattle.dp_model.specs.Machine.{Setting, World}
use Rattle.dp_model.specs.Runs.{Arrival, Nodes, Consumed, with_empty_outboxes}
use Rattle.dp_pcap.specs.declared.format.TheConstants.{MAX_RECORD}
use Rattle.dp_pcap.specs.SourceState.{SourceState}
use Rattle.dp_pcap.specs.Source.{WhereKnown, Continues, IsInRange, Moves}
use Rattle.dp_pcap.specs.declared.error.PcapError.{PcapError}
use Rattle.dp_pcap.specs.declared.source.Next.{Next}
use Rattle.dp_pcap.specs.declared.source.Next.TheVariants.{Record, End}
use Rattle.dp_pcap.specs.declared.source.Next.TheVariants as next
use Rattle.dp_pcap.specs.declared.time.Time.{Time}
use Rattle.dp_engine.specs.declared.engine.Turn.{Turn}
use Rattle.dp_engine.specs.declared.report.InputState.{InputState}
use Rattle.dp_engine.specs.declared.report.InputState.TheVariants.{Open, Whole, Cut}
use Rattle.dp_engine.specs.Engines.{EngineState}
use Rattle.dp_engine.specs.Outcomes.{outcome_of}
use Rattle.dp_engine.specs.Watching.{Event, WatchesTurn}
use Rattle.dp_pipe.specs.Devices.{Device, At}
use Rattle.dp_pipe.specs.Forwarding.{Input, AreRead, IsRead, IsReadTo, AreProgressOf, AnswersSo, HasPulled, arrivals_of, asked}
use Rattle.dp_load.specs.Pipelines.{Plan}
use Rattle.dp_pipe.specs.Running.{IsFirst, HasHeaderFault}
use Rattle.dp_pipe.specs.declared.forwarding.InputProgress.{InputProgress}
use Rattle.dp_pipe.specs.declared.forwarding.TheConstants.{MAX_RUN_TURNS}
use Rattle.dp_pipe.specs.declared.forwarding.RunCause.{RunCause}
use Rattle.dp_pipe.specs.declared.forwarding.RunCause.TheVariants.{In}

-- what is reported between turns: that a record comes to a port, with its length; and how its turn ended, with the world then
pub data Note : Type 0 where
  Came : (port : ℕ) → (time : Time) → (len : ℕ) → Note
  Ended : (turn : Turn) → (world : World) → Note

-- a record comes: it is reported, its turn is watched, and how it ended is reported
pub record TracesTurn {V : Type 0} (sees : V → Event → V → Type 0) (noted : V → Note → V → Type 0) (v v' : V) (setting : Setting) (nodes : Nodes)
    (a : Arrival Time)
    (w w' : World) : Type 0 where
  pub before : V
  pub came : noted v (Came a.port a.time (length a.bytes)) before
  pub turn : Turn
  pub after : V
  pub watched : WatchesTurn sees before after setting nodes a.port a.bytes w (outcome_of turn.outcome) turn.runs w'
  pub took : Consumed w w' turn.steps turn.cuts
  pub ended : noted after (Ended turn w') v'

-- these records come in order, and what each turn put into transmit lists is dropped after it
abbrev pub Traces : {V : Type 0} → (V → Event → V → Type 0) → (V → Note → V → Type 0) → V → V → Setting → Nodes → List (Arrival Time) → World → World → Type 0
Traces sees noted v v' c nodes [] w w' = (v' ≡ v) × (w' ≡ w)
Traces {V} sees noted v v' c nodes (a ∷ arrivals) w w' =
    (mid : V) × (turned : World) × TracesTurn sees noted v mid c nodes a w turned
    × Traces sees noted mid v' c nodes arrivals (with_empty_outboxes turned) w'

-- the port is traced: it is the only one, or all are
abbrev pub IsTraced : Option ℕ → ℕ → Type 0
IsTraced None port = ⊤
IsTraced (Some only) port = port ≡ only

-- from one engine to a later one a tracer was shown n records, of that port if only one is traced, and nothing else
pub record HasTraced {V : Type 0} (sees : V → Event → V → Type 0) (noted : V → Note → V → Type 0) (v v' : V) (only : Option ℕ) (count : ℕ)
    (before after : EngineState) : Type 0 where
  pub arrivals : List (Arrival Time)
  pub traces : Traces sees noted v v' before.setting before.nodes arrivals before.world after.world
  pub only_is : AllByRecursion (λ (a : Arrival Time). IsTraced only a.port) arrivals
  pub many : length arrivals ≡ count
  pub setting : after.setting ≡ before.setting
  pub nodes : after.nodes ≡ before.nodes
  pub turns : after.turns ≡ before.turns + count

-- ---- what was read

-- the inputs of traced ports were asked in turn until this port comes next in this round; no record of another input was read
abbrev pub TracedUntil : Option ℕ → ℕ → ℕ → List Input → Type 0
TracedUntil only round port inputs = (q : ℕ) (i : Input) → slice_get inputs q ≡ Some i
    → (IsTraced only q → AnswersSo i.state (length i.records) (asked round port q)) × ((IsTraced only q → ⊥) → (i.records ≡ []) × (i.state ≡ Open))

-- each input that is traced has ended
abbrev pub AreTracedOver : Option ℕ → List Input → Type 0
AreTracedOver only inputs = (q : ℕ) (i : Input) → slice_get inputs q ≡ Some i → IsTraced only q → i.state ≢ Open

-- The arrivals are what the readers of traced ports gave, from their first records, in the order of a run: as many as are wanted, or fewer if each
-- traced input has ended. Nothing else was read but headers.
pub record TracedAll (only : Option ℕ) (most : ℕ) (had left : List Device) (arrivals : List (Arrival Time)) : Type 0 where
  pub inputs : List Input
  pub many : length inputs ≡ length had
  pub arrivals_are : arrivals ≡ arrivals_of inputs
  pub round : ℕ
  pub port : ℕ
  pub order : TracedUntil only round port inputs
  pub read : AreRead had left inputs
  pub enough : (length arrivals ≡ most) ⊎ AreTracedOver only inputs

-- The same, but fewer than are wanted: then the input of this port, which is traced, has a fault.
pub record TracedToFault (only : Option ℕ) (most : ℕ) (had left : List Device) (arrivals : List (Arrival Time)) (port : ℕ) (error : PcapError) : Type 0 where
  pub inputs : List Input
  pub many : length inputs ≡ length had
  pub arrivals_are : arrivals ≡ arrivals_of inputs
  pub fewer : length arrivals < most
  pub is_traced : IsTraced only port
  pub round : ℕ
  pub order : TracedUntil only round port inputs
  pub input : Input
  pub input_is : slice_get inputs port ≡ Some input
  pub is_open : input.state ≡ Open
  pub fault : At had left port (IsReadTo input error)
  pub others : (q : ℕ) (i : Input) → q ≢ port → slice_get inputs q ≡ Some i → At had left q (IsRead i)

-- what was read for these arrivals, by the result: if a header has a fault, there are none
abbrev pub TracedSo : Option ℕ → ℕ → List Device → List Device → List (Arrival Time) → Result ⊤ RunCause → Type 0
TracedSo only most had left arrivals (Ok done) = TracedAll only most had left arrivals
TracedSo only most had left arrivals (Err (In port error)) =
    ((arrivals ≡ []) × HasHeaderFault had left port error) ⊎ TracedToFault only most had left arrivals port error
TracedSo only most had left arrivals (Err cause) = ⊥

-- from one engine to a later one a tracer was shown at most `most` records, which the readers gave
pub record TracesRecords {V : Type 0} (sees : V → Event → V → Type 0) (noted : V → Note → V → Type 0) (v v' : V) (only : Option ℕ) (most : ℕ)
    (before after : EngineState) (had left : List Device) (answer : Result ⊤ RunCause) : Type 0 where
  pub count : ℕ
  pub few : count ≤ most
  pub traced : HasTraced sees noted v v' only count before after
  pub read : TracedSo only most had left traced.arrivals answer

-- A traced run of a pipeline takes the first turns of a run: those of at most `most` records, each of which a reader of a traced port gave.
pub record TracesFirst {V : Type 0} (sees : V → Event → V → Type 0) (noted : V → Note → V → Type 0) (v v' : V) (p : Plan) (pattern : List ℕ) (only : Option ℕ)
    (most : ℕ) (had left : List Device) (answer : Result ⊤ RunCause) : Type 0 where
  pub first : EngineState
  pub is_first : IsFirst p pattern first
  pub last : EngineState
  pub records : TracesRecords sees noted v v' only most first last had left answer

-- ---- Internal: the result of a traced run

-- the turn of a record that was read was shown
pub record TracesRead {V : Type 0} (sees : V → Event → V → Type 0) (noted : V → Note → V → Type 0) (v v' : V) (port : ℕ) (time : Time)
    (before after : EngineState) : Type 0 where
  pub bytes : List ℕ
  pub traces : TracesTurn sees noted v v' before.setting before.nodes (record { port = port; time = time; bytes = bytes }) before.world after.world
  pub setting : after.setting ≡ before.setting
  pub nodes : after.nodes ≡ before.nodes
  pub turns : after.turns ≡ before.turns + 1

-- what comes next in an input was read: if it is a record, the turn with its bytes was shown, and else nothing
abbrev pub TracesBytes : {V : Type 0} → (V → Event → V → Type 0) → (V → Note → V → Type 0) → V → V → ℕ → EngineState → EngineState → List ℕ →
    Result Next PcapError → Type 0
TracesBytes sees noted v v' port before after bytes (Ok (Record time len)) =
    (len ≤ length bytes) × (r : TracesRead sees noted v v' port time before after) × (r.bytes ≡ take len bytes)
TracesBytes sees noted v v' port before after bytes answer = (v' ≡ v) × (after ≡ before)

abbrev pub TracesNext : {V : Type 0} → (V → Event → V → Type 0) → (V → Note → V → Type 0) → V → V → ℕ → EngineState → EngineState → SourceState →
    SourceState → Option (List ℕ) → Option (List ℕ) → Result Next PcapError → Type 0
TracesNext sees noted v v' port before after source source' a b answer =
    (bytes : List ℕ) × WhereKnown a b (λ left rest. Continues source source' left rest bytes answer)
    × TracesBytes sees noted v v' port before after bytes answer

-- what follows: after a record all transmit lists are empty, and one record fewer is wanted
abbrev pub FollowsTraced : EngineState → EngineState → InputState → ℕ → ℕ → Result Next PcapError → Result ⊤ PcapError → Type 0
FollowsTraced before after state wanted wanted' (Ok (Record time len)) answer =
    (state ≡ Open) × (answer ≡ Ok tt) × (after ≡ record before { world = with_empty_outboxes before.world }) × (wanted' + 1 ≡ wanted)
FollowsTraced before after state wanted wanted' (Ok End) answer = (state ≡ Whole) × (answer ≡ Ok tt) × (after ≡ before) × (wanted' ≡ wanted)
FollowsTraced before after state wanted wanted' (Ok (next.Cut byte)) answer = (state ≡ Cut byte) × (answer ≡ Ok tt) × (after ≡ before) × (wanted' ≡ wanted)
FollowsTraced before after state wanted wanted' (Err error) answer = (state ≡ Open) × (answer ≡ Err error) × (after ≡ before) × (wanted' ≡ wanted)

-- an open input that is traced was asked for one of the records that are wanted
pub record TracesInput {V : Type 0} (sees : V → Event → V → Type 0) (noted : V → Note → V → Type 0) (v v' : V) (only : Option ℕ) (port : ℕ)
    (before after : EngineState) (p p' : InputProgress) (old new : Device) (wanted wanted' : ℕ) (answer : Result ⊤ PcapError) : Type 0 where
  pub some : 1 ≤ wanted
  pub is_open : p.state ≡ Open
  pub is_traced : IsTraced only port
  pub next : Result Next PcapError
  -- after the turn
  pub engine : EngineState
  pub read : TracesNext sees noted v v' port before engine p.source p'.source old.bytes new.bytes next
  pub pulls : HasPulled next old new
  pub in_range : IsInRange p.source next
  pub moves : Moves p.source p'.source next
  pub follows : FollowsTraced engine after p'.state wanted wanted' next answer

-- an input is not asked: no record is wanted, or it has ended, or it is not traced
abbrev pub IsNotAsked : Option ℕ → ℕ → InputProgress → ℕ → Type 0
IsNotAsked only port p wanted = (wanted ≡ 0) ⊎ (p.state ≢ Open) ⊎ (IsTraced only port → ⊥)

-- an input comes next: it is not asked, and nothing changes, or it is
abbrev pub TracesStep : {V R : Type 0} → (V → Event → V → Type 0) → (V → Note → V → Type 0) → V → V → Option ℕ → ℕ → EngineState → EngineState →
    InputProgress → InputProgress → (R → Device) → R → R → ℕ → ℕ → Result ⊤ PcapError → Type 0
TracesStep sees noted v v' only port before after p p' device r r' wanted wanted' answer =
    (IsNotAsked only port p wanted × (answer ≡ Ok tt) × (v' ≡ v) × (after ≡ before) × (p' ≡ p) × (r' ≡ r) × (wanted' ≡ wanted))
    ⊎ TracesInput sees noted v v' only port before after p p' (device r) (device r') wanted wanted' answer

-- what tracing needs: an input and a reader for each port, of which there are at most eight, a buffer that holds any record, and no more records that
-- are wanted than an engine takes turns
pub record CanTrace (e : EngineState) (sources readers size wanted : ℕ) : Type 0 where
  pub inputs : sources ≡ length e.setting.env.ports
  pub ins : readers ≡ length e.setting.env.ports
  pub few : readers ≤ 8
  pub buf : MAX_RECORD ≤ size
  pub limit : e.turns + wanted ≤ MAX_RUN_TURNS

-- Tracing goes on: from an engine before its first turn to another one, in a round in which a port comes next, if more records are wanted.
pub record TracesUntil {V : Type 0} (sees : V → Event → V → Type 0) (noted : V → Note → V → Type 0) (v v' : V) (only : Option ℕ) (most : ℕ)
    (before after : EngineState) (had left : List Device) (progress : List InputProgress) (round port wanted : ℕ) : Type 0 where
  pub inputs : List Input
  pub many : length inputs ≡ length had
  pub progress_is : AreProgressOf had left progress inputs
  pub reached : ℕ
  pub coming : ℕ
  pub order : TracedUntil only reached coming inputs
  pub traced : HasTraced sees noted v v' only (length (arrivals_of inputs)) before after
  pub arrivals_are : traced.arrivals ≡ arrivals_of inputs
  pub wanted_is : wanted + length (arrivals_of inputs) ≡ most
  pub now : (wanted ≡ 0) ⊎ ((reached ≡ round) × (coming ≡ port))

-- a round, by its result
abbrev pub TracesRound : {V : Type 0} → (V → Event → V → Type 0) → (V → Note → V → Type 0) → V → V → Option ℕ → ℕ → EngineState → EngineState →
    List Device → List Device → List InputProgress → ℕ → ℕ → Result ⊤ RunCause → Type 0
TracesRound sees noted v v' only most before after had left progress round wanted (Ok done) =
    TracesUntil sees noted v v' only most before after had left progress (round + 1) 0 wanted
TracesRound sees noted v v' only most before after had left progress round wanted (Err cause) =
    TracesRecords sees noted v v' only most before after had left (Err cause)

-- no more records are wanted, or each input that is traced has ended
abbrev pub NoneIsWanted : Option ℕ → List InputProgress → ℕ → Type 0
NoneIsWanted only progress wanted =
    (wanted ≡ 0) ⊎ ((q : ℕ) (p : InputProgress) → slice_get progress q ≡ Some p → IsTraced only q → p.state ≢ Open)

-- a fault of an input
abbrev pub IsOfInput : RunCause → Type 0
IsOfInput (In port error) = ⊤
IsOfInput _ = ⊥

-- the cause with which tracing stops at a fault of this port's input
abbrev pub cause_at : {A : Type 0} → ℕ → Result A PcapError → Result A RunCause
cause_at port (Ok done) = Ok done
cause_at port (Err error) = Err (In port error)

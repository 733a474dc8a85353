-- What a watcher is shown of a run.
use Rattle.std.specs.Prelude.{◌≡◌, ℕ, ◌+◌, ◌≤◌, Option, None, List, Result, Ok, Err, ⊤}
use Rattle.dp_pcap.specs.declared.time.Unit.{Unit as TimeUnit}
use Rattle.dp_pcap.specs.declared.error.PcapError.{PcapError}
use Rattle.dp_pcap.specs.declared.source.Next.{Next}
use Rattle.dp_pcap.specs.SourceState.{SourceState}
use Rattle.dp_engine.specs.declared.report.Report.{Report}
use Rattle.dp_engine.specs.Engines.{EngineState}
use Rattle.dp_engine.specs.Watching.{Event}
use Rattle.dp_pipe.specs.Devices.{Device}
use Rattle.dp_pipe.specs.Forwarding.{ReadsTurn, Advances}
use Rattle.dp_load.specs.Pipelines.{Plan}
use Rattle.dp_pipe.specs.Running.{IsFirst, IsReportOf, answer_of, report_of}
use Rattle.dp_pipe.specs.Tracing.{Note, TracesRecords, TracesUntil, TracesBytes, AreTracedOver}
use Rattle.dp_pipe.specs.declared.forwarding.InputProgress.{InputProgress}
use Rattle.dp_pipe.specs.declared.forwarding.RunCause.{RunCause}
use Rattle.dp_pipe.specs.declared.forwarding.RunCause.TheVariants.{In, Out}
use Rattle.dp_pipe.specs.declared.running.RunFault.{RunFault}

-- a watcher is shown only node runs: what is reported between turns does not change it
abbrev pub unnoted : {V : Type 0} → V → Note → V → Type 0
unnoted v note v' = v' ≡ v

-- From one engine to a later one a watcher was shown the turns of records that the readers gave, in the order of a run, and nothing else: of as many
-- as are wanted, or, by the result, of all before a fault.
abbrev pub ShowsRecords : {V : Type 0} → (V → Event → V → Type 0) → V → V → ℕ → EngineState → EngineState → List Device → List Device →
    Result ⊤ RunCause → Type 0
ShowsRecords sees v v' most before after had left answer = TracesRecords sees unnoted v v' None most before after had left answer

-- two engines after the same number of turns, which may differ in what is in transmit lists and in what was counted as sent
pub record DiffersInLists (before after : EngineState) : Type 0 where
  pub world : after.world ≡ record before.world { outboxes = after.world.outboxes }
  pub setting : after.setting ≡ before.setting
  pub nodes : after.nodes ≡ before.nodes
  pub turns : after.turns ≡ before.turns

-- A watcher was shown the turns of a run with this result: of all records of all inputs; or of those before the fault of an input; or, if a writer
-- failed, of those that were read. Then packets may still be in transmit lists.
abbrev pub ShowsTurns : {V : Type 0} → (V → Event → V → Type 0) → V → V → EngineState → EngineState → List Device → List Device →
    Result ⊤ RunCause → Type 0
ShowsTurns sees v v' before after had left (Ok done) =
    (most : ℕ) × (shown : ShowsRecords sees v v' most before after had left (Ok tt)) × AreTracedOver None shown.read.inputs
ShowsTurns sees v v' before after had left (Err (In port error)) = (most : ℕ) × ShowsRecords sees v v' most before after had left (Err (In port error))
ShowsTurns sees v v' before after had left (Err (Out port)) =
    (whole : EngineState) × (most : ℕ) × ShowsRecords sees v v' most before whole had left (Ok tt) × DiffersInLists whole after
ShowsTurns sees v v' before after had left (Err cause) = ⊥

-- A watcher was shown the turns of a run on what was read of these readers, in order, and nothing else: from its start up to the engine whose counts
-- are reported.
pub record WatchesRun {V : Type 0} (sees : V → Event → V → Type 0) (v v' : V) (p : Plan) (pattern : List ℕ) (had left : List Device)
    (answer : Result Report RunFault) : Type 0 where
  pub first : EngineState
  pub is_first : IsFirst p pattern first
  pub last : EngineState
  pub shown : ShowsTurns sees v v' first last had left (answer_of answer)
  pub progress : List InputProgress
  pub reported : IsReportOf last progress (report_of answer)

-- ---- Internal

-- what comes next in an input was read, and a turn was taken; if it is a record, the turn with its bytes was shown
abbrev pub ShowsNext : {V : Type 0} → (V → Event → V → Type 0) → V → V → ℕ → EngineState → EngineState → SourceState → SourceState →
    Option (List ℕ) → Option (List ℕ) → Result Next PcapError → Type 0
ShowsNext sees v v' port before after source source' a b answer =
    (read : ReadsTurn port before after source source' a b answer) × TracesBytes sees unnoted v v' port before after read.0 answer

-- an open input is read, and the turn of the record that it gives is shown
abbrev pub ShowsInput : {V : Type 0} → (V → Event → V → Type 0) → V → V → ℕ → TimeUnit → EngineState → EngineState → InputProgress → InputProgress →
    Device → Device → List Device → List Device → Result ⊤ RunCause → Type 0
ShowsInput sees v v' port unit before after p p' old new held holds answer =
    (step : Advances port unit before after p p' old new held holds answer)
    × TracesBytes sees unnoted v v' port before step.engine step.read.0 step.next

-- a run is shown: from an engine before its first turn to another one, in a round in which a port comes next; it goes on
abbrev pub ShowsUntil : {V : Type 0} → (V → Event → V → Type 0) → V → V → EngineState → EngineState → List Device → List Device →
    List InputProgress → ℕ → ℕ → Type 0
ShowsUntil sees v v' before after had left progress round port =
    (most : ℕ) × (more : ℕ) × (1 ≤ more) × TracesUntil sees unnoted v v' None most before after had left progress round port more

-- a round is shown, by its result
abbrev pub ShowsRound : {V : Type 0} → (V → Event → V → Type 0) → V → V → EngineState → EngineState → List Device → List Device →
    List InputProgress → ℕ → Result ⊤ RunCause → Type 0
ShowsRound sees v v' before after had left progress round (Ok done) = ShowsUntil sees v v' before after had left progress (round + 1) 0
ShowsRound sees v v' before after had left progress round (Err cause) = ShowsTurns sees v v' before after had left (Err cause)

-- The calls of a C caller, and the promise that they are a use of the pipeline.
use Rattle.std.specs.Prelude.{◌≡◌, ℕ, ◌+◌, Bool, true, List, [], ◌∷◌, ◌++◌, length, map, replicate, reverse}
use Rattle.dp_lpm.specs.Changes.{AddsRoute, DeletesRoute}
use Rattle.dp_lpm.specs.Routes.{RouteTable}
use Rattle.dp_model.specs.Buffers.{Number}
use Rattle.dp_model.specs.Environments.{count_at}
use Rattle.dp_model.specs.Machine.{World, live}
use Rattle.dp_model.specs.Meaning.{TablesFit}
use Rattle.dp_model.specs.Packets.{available, is_free}
use Rattle.dp_model.specs.CopyMachine.{Captures}
use Rattle.dp_model.specs.Runs.{Arrival, Observed, Outcome, Run, NeverStuck, between, drained, with_empty_rings}
use Rattle.dp_model.specs.Safety.{Beginning, IsOfRun}
use Rattle.dp_model.specs.Starts.{IsStart}
use Rattle.dp_model.specs.Uses.{Stretch, Uses, AllFit, IsOfUse, shown_then, with_tables}
use Rattle.dp_copies.specs.CopiedUses.{Shown}
use Rattle.dp_engine.specs.Batches.{Frame}
use Rattle.dp_engine.specs.Engines.{EngineState}
use Rattle.dp_engine.specs.Steps.{routes_of}
use Rattle.dp_load.specs.Pipelines.{Plan, IsPlan}
use Rattle.dp_pipe.specs.Running.{IsFirst, setting_in, programs_in}

-- ---- calls

-- a pass: the frame that was handed in, with its port and its time; its outcome and the answers to its allocation calls; and what was handed out for
-- each port, in order
pub record Call : Type 0 where
  pub port : ℕ
  pub time : ℕ
  pub bytes : List ℕ
  pub outcome : Outcome
  pub answers : List Bool
  pub sent : List (List (List ℕ))

-- a change of a route of a table
pub data Change : Type 0 where
  Added : (table ip depth hop : ℕ) → Change
  Deleted : (table ip depth : ℕ) → Change

-- what a caller did: a pass, or a change of a route that was not refused, and the tables after it
pub data Event : Type 0 where
  Passed : (call : Call) → Event
  Changed : (change : Change) (tables : List RouteTable) → Event

abbrev pub arrival_of : Call → Arrival ℕ
arrival_of c = record { port = c.port; time = c.time; bytes = c.bytes }

-- the bytes in the transmit lists of a world, a list for each port
abbrev pub sent_in : World → List (List (List ℕ))
sent_in w = map (drained w.buffers) w.outboxes

-- the same bytes in the order of a batch: port by port, first packet first
abbrev pub frames_by_port : ℕ → List (List (List ℕ)) → List Frame
frames_by_port port [] = []
frames_by_port port (list ∷ lists) = map (λ bytes. (port, bytes)) list ++ frames_by_port (port + 1) lists

-- what a call handed out, with its time
abbrev pub timed : Call → List (List (ℕ × List ℕ))
timed c = map (map (λ bytes. (c.time, bytes))) c.sent

-- ---- events, the latest first

-- the tables after these events
abbrev pub tables_after : List RouteTable → List Event → List RouteTable
tables_after first [] = first
tables_after first (Passed c ∷ events) = tables_after first events
tables_after first (Changed change tables ∷ events) = tables

-- what a change does: one route of one table
abbrev pub Changes : Change → List RouteTable → List RouteTable → Type 0
Changes (Added table ip depth hop) old new = AddsRoute table ip depth hop old new
Changes (Deleted table ip depth) old new = DeletesRoute table ip depth old new

-- the tables after each change are those before it with that one route changed
abbrev pub AreChanges : List RouteTable → List Event → Type 0
AreChanges first [] = Unit {0}
AreChanges first (Passed c ∷ events) = AreChanges first events
AreChanges first (Changed change tables ∷ events) = Changes change (tables_after first events) tables × AreChanges first events

-- the number of passes
abbrev pub passes_in : List Event → ℕ
passes_in [] = 0
passes_in (Passed c ∷ events) = passes_in events + 1
passes_in (Changed change tables ∷ events) = passes_in events

-- what a pass shows
abbrev pub shown_of : Call → Observed ℕ
shown_of c = record { answers = c.answers; outcomes = c.outcome ∷ []; captures = timed c }

-- a pass is a stretch of one record, with the routes of its moment
abbrev pub stretch_of : List RouteTable → Call → Stretch ℕ
stretch_of tables c = record { tables = routes_of tables; arrivals = arrival_of c ∷ []; shown = shown_of c }

abbrev pub stretches_of : List RouteTable → List Event → List (Stretch ℕ)
stretches_of first [] = []
stretches_of first (Passed c ∷ events) = stretch_of (tables_after first events) c ∷ stretches_of first events
stretches_of first (Changed change tables ∷ events) = stretches_of first events

-- ---- what an engine has done

-- An engine that was opened for a pipeline has served these events: there was a use on the frames that were handed in, in order, each with the routes
-- of its moment, which sent what was handed out.
pub record HasServedCalls (p : Plan) (events : List Event) (engine : EngineState) : Type 0 where
  pub plan : IsPlan p
  pub first : EngineState
  pub is_first : IsFirst p [] first
  pub setting : engine.setting ≡ with_tables (routes_of engine.tables) (setting_in p [])
  pub tables : engine.tables ≡ tables_after p.tables events
  pub nodes : engine.nodes ≡ programs_in p
  pub turns : engine.turns ≡ passes_in events
  pub changes : AreChanges p.tables events
  pub fits : TablesFit engine.setting
  pub all_fit : AllFit (setting_in p []) (stretches_of p.tables events)
  pub uses : Uses (setting_in p []) (programs_in p) (stretches_of p.tables events) first.world engine.world

-- ---- the promise about all calls

-- what passes show together, the first of them first
abbrev pub shown_by : ℕ → List Call → Observed ℕ
shown_by ports [] = record { answers = []; outcomes = []; captures = replicate ports [] }
shown_by ports (c ∷ calls) = shown_then (shown_of c) (shown_by ports calls)

-- All passes, in order, were one run of the buffer machine, which sent for each port what they handed out. No node run in it was stuck, and the machine
-- in which each packet has its own bytes sends the same.
pub record AreOneRun (p : Plan) (calls : List Call) (first last : World) : Type 0 where
  pub run : Run (setting_in p []) (programs_in p) (map arrival_of calls) first (shown_by (length p.env.ports) calls) last
  pub never_stuck : (b : Beginning) → IsOfRun (setting_in p []) (programs_in p) (map arrival_of calls) first b →
      NeverStuck (setting_in p []) b.program b.packet b.number b.world
  pub copies : Captures p.env (routes_of p.tables) (programs_in p) (map arrival_of calls) (shown_by (length p.env.ports) calls).answers
      (shown_by (length p.env.ports) calls).captures last.cuts

-- All calls on an engine, from its opening to its end, were a use of the buffer machine on the frames that were handed in, in order, each with the
-- routes of its moment, which sent for each port what the calls handed out; and each change changed one route, and nothing else. No node run in it was
-- stuck. The machine in which each packet has its own bytes sends the same, with the same routes, given the same outcomes of allocation calls. If no
-- route changed, all passes were one run. And at the end, when what waits in rings is freed, every buffer is free, so each pool has all its buffers.
pub record Promised (p : Plan) (events : List Event) (engine : EngineState) : Type 0 where
  pub first : World
  pub start : IsStart p.env first
  pub changes : AreChanges p.tables events
  pub uses : Uses (setting_in p []) (programs_in p) (stretches_of p.tables events) first engine.world
  pub never_stuck : (b : Beginning) (of : IsOfUse (setting_in p []) (programs_in p) (stretches_of p.tables events) first b) →
      NeverStuck (with_tables of.stretch.tables (setting_in p [])) b.program b.packet b.number b.world
  pub copies : Shown p.env (programs_in p) (stretches_of p.tables events) engine.world.cuts
  -- where no route changed
  pub one_run : (calls : List Call) → events ≡ map (λ c. Passed c) (reverse calls) → AreOneRun p calls first engine.world
  pub free : (b : Number) → is_free (live (between (with_empty_rings engine.world))) b ≡ true
  pub whole : (pool : ℕ) → available p.env.pools (live (between (with_empty_rings engine.world))) pool ≡ count_at p.env.pools pool

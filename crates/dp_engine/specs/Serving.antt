-- Internal: the effect of each part of a turn on the world.
use Rattle.std.specs.Prelude.{◌≡◌, ℕ, Bool, List, Option, Some, None, slice_get}
use Rattle.std.specs.List.{AllByRecursion}
use Rattle.dp_model.specs.declared.env.PortSpec.{PortSpec}
use Rattle.dp_model.specs.declared.instr.Instr.{Instr}
use Rattle.dp_model.specs.Packets.{Packet}
use Rattle.dp_model.specs.Machine.{World}
use Rattle.dp_model.specs.Runs.{Outcome, Arrives, Waiting, first_waiting, NodeRun, Consumed}
use Rattle.dp_model.specs.Safety.{IsAtRest}
use Rattle.dp_engine.specs.declared.run.NodeRun as took
use Rattle.dp_engine.specs.Handles.{Core}
use Rattle.dp_engine.specs.Steps.{FitsIn}
use Rattle.dp_engine.specs.Schemes.{Scheme}
use Rattle.dp_engine.specs.Watching.{Event, SeesAll, ShowsRun, ShowsArrival, ShowsServing, of_ring}
use Rattle.dp_model.specs.Limits.{max_ring_runs}

-- the outcome of a record at a port with its program
abbrev pub ArrivesAt : Scheme → ℕ → List ℕ → World → Outcome → List Bool → World → Type 0
ArrivesAt s port bytes w outcome answers w' =
    (spec : PortSpec) × (program : List Instr)
    × (slice_get s.setting.env.ports port ≡ Some spec) × (slice_get s.nodes.ports port ≡ Some program)
    × Arrives s.setting program port spec bytes w outcome answers w'

-- the first ring that has a packet is served
pub record ServesNext (s : Scheme) (w : World) (run : took.NodeRun) (w' : World) : Type 0 where
  pub next : Waiting Packet
  pub program : List Instr
  pub answers : List Bool
  pub waits : first_waiting w.rings ≡ Some next
  pub program_is : slice_get s.nodes.rings next.ring ≡ Some program
  pub runs : NodeRun s.setting program next.packet next.ring (record w { rings = next.rings }) answers w'
  pub took : Consumed w w' run.steps run.cuts

-- and nothing happens if no ring has one
abbrev pub ServesOne : Scheme → World → Option took.NodeRun → World → Type 0
ServesOne s w None w' = (first_waiting w.rings ≡ None) × (w' ≡ w)
ServesOne s w (Some run) w' = ServesNext s w run w'

-- a machine between two node runs of a context
pub record Rests (s : Scheme) (core : Core) : Type 0 where
  pub idle : AllByRecursion (λ o. o ≡ None) core.state.packets
  pub pools : core.pools ≡ s.setting.env.pools
  pub fits : FitsIn s.setting.env core.frames
  pub rest : IsAtRest s.setting core.state.world

-- ---- what watchers are shown

-- a watcher was shown the arrival of the record
pub record WatchesArrival {V : Type 0} (sees : V → Event → V → Type 0) (v v' : V) (s : Scheme) (port : ℕ) (bytes : List ℕ) (w : World) (outcome : Outcome)
    (w' : World) : Type 0 where
  pub answers : List Bool
  pub events : List Event
  pub shows : ShowsArrival s.setting s.nodes port bytes w outcome answers w' events
  pub seen : SeesAll sees v events v'

-- a watcher was shown the node run on the front packet of the first ring that has one
pub record WatchesNext {V : Type 0} (sees : V → Event → V → Type 0) (v v' : V) (s : Scheme) (w w' : World) : Type 0 where
  pub next : Waiting Packet
  pub waits : first_waiting w.rings ≡ Some next
  pub program : List Instr
  pub program_is : slice_get s.nodes.rings next.ring ≡ Some program
  pub answers : List Bool
  pub events : List Event
  pub shows : ShowsRun s.setting (of_ring program next w) answers w' events
  pub seen : SeesAll sees v events v'

-- a watcher was shown that node run, or there was none
abbrev pub WatchesOne : {V : Type 0} → (V → Event → V → Type 0) → V → V → Scheme → World → Option took.NodeRun → World → Type 0
WatchesOne sees v v' s w None w' = v' ≡ v
WatchesOne sees v v' s w (Some run) w' = WatchesNext sees v v' s w w'

-- a watcher was shown up to 32 of these node runs
pub record WatchesServing {V : Type 0} (sees : V → Event → V → Type 0) (v v' : V) (s : Scheme) (w : World) (runs : ℕ) (w' : World) : Type 0 where
  pub answers : List Bool
  pub events : List Event
  pub shows : ShowsServing s.setting s.nodes.rings max_ring_runs w answers runs w' events
  pub seen : SeesAll sees v events v'

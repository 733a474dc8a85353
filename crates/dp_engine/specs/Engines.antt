-- Engines: their state, how one begins, and the effect of its calls.
use Rattle.std.specs.Prelude.{◌≡◌, ℕ, ◌+◌, ◌*◌, ◌≤◌, Bool, List, [], ◌∷◌, length, replicate, slice_index_or, slice_set, None}
use Rattle.std.specs.List.{AllByRecursion}
use Rattle.dp_region.specs.Ownership.{Home}
use Rattle.dp_pool.specs.Pools.{PoolZones}
use Rattle.dp_ring.specs.Rings.{RingView}
use Rattle.dp_lpm.specs.Routes.{RouteTable}
use Rattle.dp_model.specs.declared.instr.Instr.{Instr}
use Rattle.dp_model.specs.Limits.{max_ring_runs}
use Rattle.dp_model.specs.Environments.{Environment, fault_of}
use Rattle.dp_model.specs.Packets.{Packet}
use Rattle.dp_model.specs.Rules.{Question}
use Rattle.dp_model.specs.Machine.{Setting, World}
use Rattle.dp_model.specs.Runs as runs
use Rattle.dp_model.specs.Runs.{Turn as IsTurn, Consumed, NeverStuck, Nodes, with_empty_outboxes, with_empty_rings, left_in_rings}
use Rattle.dp_model.specs.Safety.{Beginning, IsOfTurn, AreProgramsOf, max_steps_of}
use Rattle.dp_model.specs.Starts.{IsStart}
use Rattle.dp_engine.specs.declared.engine.Turn.{Turn}
use Rattle.dp_engine.specs.declared.report.Tallies.{Tallies}
use Rattle.dp_engine.specs.Outcomes.{outcome_of, max_steps}
use Rattle.dp_engine.specs.Handles.{Frames, Core}
use Rattle.dp_engine.specs.Schemes.{Scheme, scheme_of}
use Rattle.dp_engine.specs.Serving.{Rests}
use Rattle.dp_engine.specs.Memories.{EngineMemoryView}
use Rattle.dp_engine.specs.Tallies.{counted, packet_count}

-- an engine as contracts see it: its setting, its tables with their sizes, its programs, its world, its counts for each port and each ring
-- (eight slots, the first of them in use), and its region
pub record EngineState : Type 0 where
  pub setting : Setting
  pub tables : List RouteTable
  pub nodes : Nodes
  pub world : World
  pub turns : ℕ
  pub tallies : List Tallies
  pub left : List ℕ
  pub home : Home
  pub size : ℕ

abbrev pub engine_of : Scheme → Core → EngineMemoryView → ℕ → List Tallies → List ℕ → EngineState
engine_of s core memory turns tallies left = record {
  setting = s.setting;
  tables = s.tables;
  nodes = s.nodes;
  world = core.state.world;
  turns = turns;
  tallies = tallies;
  left = left;
  home = memory.home;
  size = memory.size;
}

-- ---- what holds of every engine

-- the sum of a count over the ports
abbrev pub over_ports : (Tallies → ℕ) → List Tallies → ℕ
over_ports f [] = 0
over_ports f (t ∷ tallies) = f t + over_ports f tallies

abbrev pub records_of : Tallies → ℕ
records_of t = t.received + t.nobuf + t.oversize

abbrev pub sent_by : Tallies → ℕ
sent_by t = t.sent

abbrev pub sum : List ℕ → ℕ
sum [] = 0
sum (n ∷ ns) = n + sum ns

-- pools, rings and transmit lists lie in zones of the engine's memory, and nothing else does
pub record StandIn (memory : EngineMemoryView) (frames : Frames) : Type 0 where
  pub pools : AllByRecursion (λ (z : PoolZones). z.home ≡ memory.home) frames.zones
  pub rings : AllByRecursion (λ (r : RingView). r.home ≡ memory.home) frames.rings
  pub outboxes : AllByRecursion (λ (r : RingView). r.home ≡ memory.home) frames.outboxes
  pub out : 2 * length frames.zones + length frames.rings + length frames.outboxes ≡ memory.out

-- the maximum number of turns of an engine: 2^40, so its counts of calls stay below 2^64
abbrev pub max_turns : ℕ
max_turns = 1099511627776

-- its environment is within the limits; a turn has the node run of its record and those on packets of rings; each step and each record make at most
-- one allocation call, each node run is cut at most once, and each packet that was sent or left comes from a call
pub record IsEngine (s : Scheme) (core : Core) (memory : EngineMemoryView) (turns : ℕ) (tallies : List Tallies) (left : List ℕ) : Type 0 where
  pub within : fault_of s.setting.env ≡ None
  pub rests : Rests s core
  pub stand : StandIn memory core.frames
  pub limit : turns ≤ max_turns
  pub ports : length tallies ≡ 8
  pub rings : length left ≡ 8
  pub records : over_ports records_of tallies ≤ turns
  pub calls : core.state.world.calls ≤ turns * ((max_ring_runs + 1) * max_steps + 1)
  pub cuts : core.state.world.cuts ≤ turns * (max_ring_runs + 1)
  pub packets : over_ports sent_by tallies + sum left + packet_count core.state ≤ core.state.world.calls

-- ---- how it begins

abbrev pub no_tallies : Tallies
no_tallies = record { received = 0; nobuf = 0; oversize = 0; sent = 0 }

-- an engine before its first turn, in a region of this size: no call is refused, there are no packets, and all counts are 0
pub record IsOpened (home : Home) (size : ℕ) (env : Environment) (tables : List RouteTable) (questions : List Question) (engine : EngineState) : Type 0 where
  pub setting : engine.setting ≡ (scheme_of env tables questions []).setting
  pub tables_are : engine.tables ≡ tables
  pub nodes : engine.nodes ≡ (scheme_of env tables questions []).nodes
  pub start : IsStart env engine.world
  pub turns : engine.turns ≡ 0
  pub tallies : engine.tallies ≡ replicate 8 no_tallies
  pub left : engine.left ≡ replicate 8 0
  pub home_is : engine.home ≡ home
  pub size_is : engine.size ≡ size

-- numbers in strictly ascending order
abbrev pub IsAscending : ℕ → List ℕ → Type 0
IsAscending least [] = Unit {0}
IsAscending least (n ∷ ns) = (least + 1 ≤ n) × IsAscending n ns

-- ---- what its calls do

abbrev pub tallies_at : List Tallies → ℕ → Tallies
tallies_at tallies port = slice_index_or tallies port no_tallies

-- the counts after one more record at a port, with this outcome
abbrev pub counted_at : ℕ → runs.Outcome → List Tallies → List Tallies
counted_at port outcome tallies = slice_set tallies port (counted outcome (tallies_at tallies port))

-- A turn of a port with a record takes an engine from `old` to `new` with this result: a turn of the definitions, no node run of which is stuck, and
-- after which each port has its transmit list.
pub record TakesTurn (old new : EngineState) (port : ℕ) (bytes : List ℕ) (answer : Turn) : Type 0 where
  pub turn : (answers : List Bool) × IsTurn old.setting old.nodes port bytes old.world (outcome_of answer.outcome) answer.runs answers new.world
  pub never_stuck : (b : Beginning) → IsOfTurn old.setting old.nodes port bytes old.world b → NeverStuck old.setting b.program b.packet b.number b.world
  pub took : Consumed old.world new.world answer.steps answer.cuts
  pub few : answer.steps ≤ answer.runs * max_steps
  -- it takes at most 257 times as many steps as the programs that ran have instructions
  pub short : (ran : List (List Instr)) × AreProgramsOf turn.1 ran × (answer.steps ≤ max_steps_of ran)
  pub lists : length new.world.outboxes ≡ length new.setting.env.ports
  pub rest : new ≡ record old { world = new.world; turns = old.turns + 1; tallies = counted_at port (outcome_of answer.outcome) old.tallies }

-- the counts after this many more records of a port are written whole
abbrev pub sent_at : ℕ → ℕ → List Tallies → List Tallies
sent_at port sent tallies =
    slice_set tallies port (record (tallies_at tallies port) { sent = (tallies_at tallies port).sent + sent })

-- an engine after the drain of a port that wrote that many records whole
abbrev pub drained : ℕ → ℕ → EngineState → EngineState
drained port sent e = record e {
  world = record e.world { outboxes = slice_set e.world.outboxes port [] };
  tallies = sent_at port sent e.tallies;
}

-- an engine after one ring is emptied and its packets are counted as left
abbrev pub left_at : ℕ → EngineState → EngineState
left_at ring e = record e {
  world = record e.world { rings = slice_set e.world.rings ring [] };
  left = slice_set e.left ring (slice_index_or e.left ring 0 + slice_index_or (left_in_rings e.world) ring 0);
}

-- adds the count of each ring
abbrev pub with_left : List ℕ → List ℕ → List ℕ
with_left [] counts = []
with_left (n ∷ ns) [] = n ∷ ns
with_left (n ∷ ns) (x ∷ counts) = (n + x) ∷ with_left ns counts

-- an engine after a flush: no packet waits, and those that waited in rings are counted as left
abbrev pub flushed : EngineState → EngineState
flushed e = record e {
  world = with_empty_rings (with_empty_outboxes e.world);
  left = with_left e.left (left_in_rings e.world);
}

-- no packet waits anywhere
pub record IsFlushed (engine : EngineState) : Type 0 where
  pub rings : AllByRecursion (λ (packets : List Packet). packets ≡ []) engine.world.rings
  pub outboxes : AllByRecursion (λ (packets : List Packet). packets ≡ []) engine.world.outboxes

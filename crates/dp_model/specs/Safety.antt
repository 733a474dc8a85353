-- What is promised of the node runs, turns and whole runs of checked nodes.
use Rattle.std.specs.Prelude.{◌≡◌, ◌⊎◌, ℕ, ◌+◌, ◌<◌, ◌≤◌, Bool, nat_lt, if◌then◌else◌, List, [], ◌∷◌, ◌++◌, length, replicate}
use Rattle.std.specs.Prelude.{Option, Some, None, slice_get}
use Rattle.std.specs.List.{AllByRecursion, AllZip}
use Rattle.dp_model.specs.declared.env.Entry.{Entry}
use Rattle.dp_model.specs.declared.env.Entry.TheVariants.{Port, Ring}
use Rattle.dp_model.specs.declared.env.PortSpec.{PortSpec}
use Rattle.dp_model.specs.declared.instr.Instr.{Instr}
use Rattle.dp_model.specs.declared.row.Row.{Row}
use Rattle.dp_model.specs.Limits.{max_segments, max_ring_runs}
use Rattle.dp_model.specs.Environments.{fault_of}
use Rattle.dp_model.specs.Packets.{Packet, needed, AreOwned, IsWellFormed}
use Rattle.dp_model.specs.Rows.{entry_row}
use Rattle.dp_model.specs.Rules.{Question, IsCertified}
use Rattle.dp_model.specs.Machine.{Setting, World, State, live, Next, At, Move, Acts, IsLabel, Step, with_step, is_denied}
use Rattle.dp_model.specs.Meaning.{RowHolds, RingHolds}
use Rattle.dp_model.specs.Runs.{StepsTo, first_state, NodeRun, max_steps, NeverStuck, between, Outcome, Got, NoBuffer, Oversize, Arrives, Waiting}
use Rattle.dp_model.specs.Runs.{packet_received, Reception, first_waiting, Nodes, runs_of, Turn, Arrival, Observed, Run}
use Rattle.dp_model.specs.Laws.{RowHoldsAt, Ready, Begins, AreChecked}

-- ---- packets

-- a packet has 1 to 64 segments
abbrev pub IsPacket : Packet → Type 0
IsPacket packet = (1 ≤ length packet) × (length packet ≤ max_segments)

-- a register holds a packet or nothing
abbrev pub IsPacketOrNone : Option Packet → Type 0
IsPacketOrNone None = Unit {0}
IsPacketOrNone (Some packet) = IsPacket packet

-- registers, rings and transmit lists hold packets
pub record ArePackets (s : State) : Type 0 where
  pub held : AllByRecursion IsPacketOrNone s.packets
  pub rings : AllByRecursion (AllByRecursion IsPacket) s.world.rings
  pub outboxes : AllByRecursion (AllByRecursion IsPacket) s.world.outboxes

-- ---- node runs

-- what holds between node runs: the next one can begin, each mbuf has one owner, and packets have 1 to 64 segments
pub record IsAtRest (setting : Setting) (w : World) : Type 0 where
  pub ready : Ready setting w
  pub owned : AreOwned setting.env.pools (live (between w))
  pub packets : ArePackets (between w)

-- a node run begins as its entry says, in a well-formed world
pub record BeginsWell (setting : Setting) (question : Question) (packet : Packet) (number : ℕ) (w : World) : Type 0 where
  pub begins : Begins setting question packet number w
  pub owned : AreOwned setting.env.pools (live (first_state packet number w))
  pub packets : ArePackets (first_state packet number w)

-- before each instruction: its label's row holds, each packet in a ring satisfies what the ring declares, the world is well formed, and there is a
-- step
pub record IsSafeAt (setting : Setting) (question : Question) (label : ℕ) (s : State) : Type 0 where
  pub row : RowHoldsAt setting question.rows label s
  pub rings : AllZip (RingHolds setting.env.pools (live s)) setting.env.rings s.world.rings
  pub well_formed : IsWellFormed setting.env.pools s.world.buffers (live s)
  pub packets : ArePackets s
  pub has_step : (m : Move) × Step setting question.program label s m

-- what holds of a node run that begins with this packet, number and world
pub record IsSafeRun (setting : Setting) (question : Question) (packet : Packet) (number : ℕ) (w : World) : Type 0 where
  -- it begins in the row of its entry
  pub begins : (row : Row) × (entry_row question.env question.entry ≡ Some row) × RowHolds setting.env row (first_state packet number w)
  -- at each label that it reaches it is safe, so it is never stuck
  pub stays : (n label : ℕ) (answers : List Bool) (s : State) → StepsTo setting question.program n 0 (first_state packet number w) answers (At label) s →
      IsSafeAt setting question label s
  -- it takes at most `max_steps`
  pub short : (n : ℕ) (answers : List Bool) (next : Next) (s : State) → StepsTo setting question.program n 0 (first_state packet number w) answers next s →
      n ≤ max_steps question.program
  -- it can end
  pub ends : (answers : List Bool) × (w' : World) × NodeRun setting question.program packet number w answers w'
  -- and then the next one can begin
  pub rests : (answers : List Bool) (w' : World) → NodeRun setting question.program packet number w answers w' → IsAtRest setting w'

-- ---- the node runs of a turn

-- how a node run begins: its program, packet, number and world
pub record Beginning : Type 0 where
  pub entry : Entry
  pub program : List Instr
  pub packet : Packet
  pub number : ℕ
  pub world : World

-- a node run of this turn begins in this way: with the record, which is received
pub record IsOfRecord (setting : Setting) (nodes : Nodes) (port : ℕ) (bytes : List ℕ) (w : World) (b : Beginning) : Type 0 where
  pub spec : PortSpec
  pub spec_is : slice_get setting.env.ports port ≡ Some spec
  pub program : List Instr
  pub program_is : slice_get nodes.ports port ≡ Some program
  pub reception : Reception setting spec bytes w
  pub is : b ≡ record {
    entry = Port port;
    program = program;
    packet = packet_received setting spec bytes reception.numbers;
    number = port;
    world = record w { buffers = reception.buffers; calls = w.calls + 1 };
  }

-- whole node runs of these programs, in sequence, on packets that wait in rings
abbrev pub HasServed : Setting → List (List Instr) → List (List Instr) → World → World → Type 0
HasServed setting programs [] w w' = w' ≡ w
HasServed setting programs (program ∷ later) w w' =
    (next : Waiting Packet) × (answers : List Bool) × (mid : World)
    × (first_waiting w.rings ≡ Some next) × (slice_get programs next.ring ≡ Some program)
    × NodeRun setting program next.packet next.ring (record w { rings = next.rings }) answers mid × HasServed setting programs later mid w'

-- rings are served until none has a packet, or n times
pub record IsServed (setting : Setting) (programs : List (List Instr)) (n : ℕ) (w : World) (runs : ℕ) (w' : World) : Type 0 where
  pub ran : List (List Instr)
  pub served : HasServed setting programs ran w w'
  pub count : length ran ≡ runs
  pub few : runs ≤ n
  pub why : (runs ≡ n) ⊎ (first_waiting w'.rings ≡ None)

-- a node run of this turn begins in this way: on the front packet of the first ring that has one, after fewer than 32 others
pub record IsOfRing (setting : Setting) (nodes : Nodes) (port : ℕ) (bytes : List ℕ) (w : World) (b : Beginning) : Type 0 where
  pub spec : PortSpec
  pub spec_is : slice_get setting.env.ports port ≡ Some spec
  pub own : List Instr
  pub own_is : slice_get nodes.ports port ≡ Some own
  pub outcome : Outcome
  pub answers : List Bool
  pub mid : World
  pub arrives : Arrives setting own port spec bytes w outcome answers mid
  pub served : List (List Instr)
  pub few : length served < max_ring_runs
  pub last : World
  pub has_served : HasServed setting nodes.rings served mid last
  pub next : Waiting Packet
  pub waits : first_waiting last.rings ≡ Some next
  pub program : List Instr
  pub program_is : slice_get nodes.rings next.ring ≡ Some program
  pub is : b ≡ record { entry = Ring next.ring; program = program; packet = next.packet; number = next.ring; world = record last { rings = next.rings } }

-- a node run of this turn begins in this way
abbrev pub IsOfTurn : Setting → Nodes → ℕ → List ℕ → World → Beginning → Type 0
IsOfTurn setting nodes port bytes w b = IsOfRecord setting nodes port bytes w b ⊎ IsOfRing setting nodes port bytes w b

-- a certificate is accepted with the program and the entry, and the node run is safe
pub record IsSafeBeginning (setting : Setting) (b : Beginning) : Type 0 where
  pub question : Question
  pub accepted : IsCertified question
  pub env_is : question.env ≡ setting.env
  pub program_is : question.program ≡ b.program
  pub entry_is : question.entry ≡ b.entry
  pub safe : IsSafeRun setting question b.packet b.number b.world

-- ---- turns

-- the outcome of a record: the pattern and the free buffers decide
abbrev pub outcome_for : Setting → PortSpec → List ℕ → World → Outcome
outcome_for setting spec bytes w =
    if nat_lt spec.segs (needed setting.env.pools spec.pool (length bytes)) then Oversize else
    if is_denied setting (between w) spec.pool (needed setting.env.pools spec.pool (length bytes)) then NoBuffer else Got

pub record IsSafeTurn (setting : Setting) (nodes : Nodes) (port : ℕ) (spec : PortSpec) (bytes : List ℕ) (w : World) : Type 0 where
  -- no node run of the turn is ever stuck
  pub never_stuck : (b : Beginning) → IsOfTurn setting nodes port bytes w b → NeverStuck setting b.program b.packet b.number b.world
  -- all of them are safe
  pub runs : (b : Beginning) → IsOfTurn setting nodes port bytes w b → IsSafeBeginning setting b
  -- there is such a turn
  pub exists : (outcome : Outcome) × (runs : ℕ) × (answers : List Bool) × (w' : World) × Turn setting nodes port bytes w outcome runs answers w'
  -- each has the outcome that the pattern and the free buffers decide, and after it the next turn can begin
  pub outcome : (outcome : Outcome) (runs : ℕ) (answers : List Bool) (w' : World) → Turn setting nodes port bytes w outcome runs answers w' →
      outcome ≡ outcome_for setting spec bytes w
  pub rests : (outcome : Outcome) (runs : ℕ) (answers : List Bool) (w' : World) → Turn setting nodes port bytes w outcome runs answers w' → IsAtRest setting w'

-- ---- whole runs

-- a pipeline: an environment within the limits, and an accepted node for each port and each ring
pub record IsPipeline (setting : Setting) (nodes : Nodes) : Type 0 where
  pub limits : fault_of setting.env ≡ None
  pub checked : AreChecked setting nodes
  pub ports : length nodes.ports ≡ length setting.env.ports
  pub rings : length nodes.rings ≡ length setting.env.rings

-- each instruction of a program leads to one of its instructions, or ends the node run
abbrev pub LeadsWithin : Setting → Beginning → Type 0
LeadsWithin setting b =
    (n label : ℕ) (answers : List Bool) (s : State) (i : Instr) (m : Move) →
    StepsTo setting b.program n 0 (first_state b.packet b.number b.world) answers (At label) s → slice_get b.program label ≡ Some i →
    Acts setting label (with_step s) i m → IsLabel b.program m.next

-- what holds of the node runs of every pipeline that starts in a world at rest, whatever records come
pub record KeepsSafe (setting : Setting) (nodes : Nodes) : Type 0 where
  -- those of a turn are safe
  pub turn_runs : (port : ℕ) (bytes : List ℕ) (w : World) (b : Beginning) → IsAtRest setting w → IsOfTurn setting nodes port bytes w b →
      IsSafeBeginning setting b
  -- so is the next one on a packet of a ring
  pub waiting : (next : Waiting Packet) (program : List Instr) (w : World) → IsAtRest setting w → first_waiting w.rings ≡ Some next →
      slice_get nodes.rings next.ring ≡ Some program →
      IsSafeBeginning setting (record {
        entry = Ring next.ring;
        program = program;
        packet = next.packet;
        number = next.ring;
        world = record w { rings = next.rings };
      })
  -- a safe one goes from instruction to instruction
  pub leads : (b : Beginning) → IsSafeBeginning setting b → LeadsWithin setting b
  -- after every record the world is at rest again
  pub arrives : (program : List Instr) (port : ℕ) (spec : PortSpec) (bytes : List ℕ) (w w' : World) (outcome : Outcome) (answers : List Bool) →
      slice_get nodes.ports port ≡ Some program →
      slice_get setting.env.ports port ≡ Some spec → IsAtRest setting w → Arrives setting program port spec bytes w outcome answers w' → IsAtRest setting w'

-- no program has more instructions than this
abbrev pub AreShort : ℕ → List (List Instr) → Type 0
AreShort most programs = (i : ℕ) (program : List Instr) → slice_get programs i ≡ Some program → length program ≤ most

-- the programs of a turn's node runs, in order: the port's, if the record is received, and then those of the rings
pub record AreProgramsOf {setting : Setting} {nodes : Nodes} {port : ℕ} {bytes : List ℕ} {w : World} {outcome : Outcome} {runs : ℕ} {answers : List Bool}
    {w' : World} (turn : Turn setting nodes port bytes w outcome runs answers w') (ran : List (List Instr)) : Type 0 where
  pub served : List (List Instr)
  pub has_served : HasServed setting nodes.rings served turn.mid w'
  pub ran_are : ran ≡ replicate (runs_of outcome) turn.program ++ served
  pub count : length ran ≡ runs

-- the maximum number of steps of node runs of these programs together
abbrev pub max_steps_of : List (List Instr) → ℕ
max_steps_of [] = 0
max_steps_of (program ∷ programs) = max_steps program + max_steps_of programs

-- a record can come: its port exists, and it consists of bytes
pub record CanArrive {T : Type 0} (setting : Setting) (a : Arrival T) : Type 0 where
  pub port : a.port < length setting.env.ports
  pub bytes : AllByRecursion (λ x. x < 256) a.bytes

-- a node run of this run begins in this way: in the turn of a record, after the turns before it
pub record IsOfRun {T : Type 0} (setting : Setting) (nodes : Nodes) (arrivals : List (Arrival T)) (w : World) (b : Beginning) : Type 0 where
  pub before : List (Arrival T)
  pub arrival : Arrival T
  pub after : List (Arrival T)
  pub arrivals_are : arrivals ≡ before ++ (arrival ∷ after)
  pub shown : Observed T
  pub last : World
  pub run : Run setting nodes before w shown last
  pub of_turn : IsOfTurn setting nodes arrival.port arrival.bytes last b

-- what holds of whole runs of every pipeline, whatever records come
pub record KeepsRunsSafe {T : Type 0} (setting : Setting) (nodes : Nodes) (arrivals : List (Arrival T)) (w : World) : Type 0 where
  -- their node runs are safe
  pub runs : (b : Beginning) → IsOfRun setting nodes arrivals w b → IsSafeBeginning setting b
  -- and after such a run the next record can come
  pub rests : (shown : Observed T) (w' : World) → Run setting nodes arrivals w shown w' → IsAtRest setting w'

-- what holds of whole runs of every pipeline on records that can come
pub record AreSafe {T : Type 0} (setting : Setting) (nodes : Nodes) (arrivals : List (Arrival T)) (w : World) : Type 0 where
  -- no node run is ever stuck
  pub never_stuck : (b : Beginning) → IsOfRun setting nodes arrivals w b → NeverStuck setting b.program b.packet b.number b.world
  -- all of them are safe, and after such a run the next record can come
  pub keeps : KeepsRunsSafe setting nodes arrivals w
  -- there is such a run
  pub exists : (shown : Observed T) × (w' : World) × Run setting nodes arrivals w shown w'

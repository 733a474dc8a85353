-- Turns of an engine.
use Rattle.std.proofs.Common.{◌≡◌, ℕ, zero, suc, ◌+◌, ◌<◌, ◌≤◌, Bool, List, [], ◌∷◌, ◌++◌, length, refl, sym, ◌∙◌, subst, arith}
use Rattle.std.specs.Prelude.{slice_set}
use Rattle.std.proofs.lemmas.List.{length-set}
use Rattle.dp_model.specs.Machine.{World}
use Rattle.dp_model.specs.Runs as runs
use Rattle.dp_model.specs.Runs.{Serves, Turn}
use Rattle.dp_model.specs.Safety.{IsPipeline}
use Rattle.dp_model.specs.Laws.Limits.{numbers_known, numbers_pass}
use Rattle.dp_engine.specs.declared.report.Tallies.{Tallies}
use Rattle.dp_engine.specs.Handles.{Core}
use Rattle.dp_engine.specs.Schemes.{Scheme}
use Rattle.dp_engine.specs.Serving.{ArrivesAt, Rests}
use Rattle.dp_engine.specs.Memories.{EngineMemoryView}
use Rattle.dp_engine.specs.Tallies.{counted, packet_count}
use Rattle.dp_engine.specs.Engines.{over_ports, records_of, sent_by, StandIn, IsEngine, tallies_at, counted_at}

-- ---- a turn

-- a record's part and the rings' part make a turn
pub turn_is : (s : Scheme) (port : ℕ) (bytes : List ℕ) (w mid w' : World) (outcome : runs.Outcome) (more all : ℕ) → all ≡ runs.runs_of outcome + more
    → (now : List Bool) × ArrivesAt s port bytes w outcome now mid → (later : List Bool) × Serves s.setting s.nodes.rings 32 mid later more w'
    → (answers : List Bool) × Turn s.setting s.nodes port bytes w outcome all answers w'
turn_is s port bytes w mid w' outcome more all sum (now, (spec, program, is_spec, is_program, arrives)) (later, serves) = (
  now ++ later,
  record {
    spec = spec;
    program = program;
    spec_is = is_spec;
    program_is = is_program;
    mid = mid;
    now = now;
    arrives = arrives;
    later = later;
    more = more;
    serves = serves;
    answers_are = refl;
    runs_is = sum;
  },
)

-- a port that exists is one of eight
pub port_small : (s : Scheme) (port : ℕ) → IsPipeline s.setting s.nodes → port < length s.setting.env.ports → port < 8
port_small s port pipeline less =
    let (_, _, few) = numbers_known s.setting.env (numbers_pass s.setting.env pipeline.limits) in
    omega (arith, few, less)

-- and so is a ring
pub ring_small : (s : Scheme) (ring : ℕ) → IsPipeline s.setting s.nodes → ring < length s.setting.env.rings → ring < 8
ring_small s ring pipeline less =
    let (_, few, _) = numbers_known s.setting.env (numbers_pass s.setting.env pipeline.limits) in
    omega (arith, few, less)

-- ---- counts

-- one port's count is part of the sum
pub one_of_all : (f : Tallies → ℕ) (tallies : List Tallies) (port : ℕ) → port < length tallies → f (tallies_at tallies port) ≤ over_ports f tallies
one_of_all f [] port less = absurd (omega (arith, less))
one_of_all f (t ∷ tallies) zero less = omega arith
one_of_all f (t ∷ tallies) (suc port) less = omega (arith, one_of_all f tallies port (omega (arith, less)))

-- if the counts of one port change
pub one_changed : (f : Tallies → ℕ) (tallies : List Tallies) (port : ℕ) (t' : Tallies) → port < length tallies
    → over_ports f (slice_set tallies port t') + f (tallies_at tallies port) ≡ over_ports f tallies + f t'
one_changed f [] port t' less = absurd (omega (arith, less))
one_changed f (t ∷ tallies) zero t' less = omega arith
one_changed f (t ∷ tallies) (suc port) t' less = omega (arith, one_changed f tallies port t' (omega (arith, less)))

counted_records : (outcome : runs.Outcome) (t : Tallies) → records_of (counted outcome t) ≡ records_of t + 1
counted_records runs.Outcome.Got t = omega arith
counted_records runs.Outcome.NoBuffer t = omega arith
counted_records runs.Outcome.Oversize t = omega arith

counted_sent : (outcome : runs.Outcome) (t : Tallies) → sent_by (counted outcome t) ≡ sent_by t
counted_sent runs.Outcome.Got t = refl
counted_sent runs.Outcome.NoBuffer t = refl
counted_sent runs.Outcome.Oversize t = refl

-- ---- what holds of an engine

-- after a turn
pub turned : (s : Scheme) (m m' : Core) (memory : EngineMemoryView) (turns : ℕ) (tallies : List Tallies) (left : List ℕ) (port : ℕ) (outcome : runs.Outcome)
    → IsEngine s m memory turns tallies left → turns < 1099511627776 → port < 8 → Rests s m' → m'.frames ≡ m.frames
    → m'.state.world.calls ≤ m.state.world.calls + 8684545
    → m'.state.world.cuts ≤ m.state.world.cuts + 33 → packet_count m'.state + m.state.world.calls ≤ packet_count m.state + m'.state.world.calls
    → IsEngine s m' memory (turns + 1) (counted_at port outcome tallies) left
turned s m m' memory turns tallies left port outcome e limit less rests frames calls cuts packets =
    let t = tallies_at tallies port in
    let there : port < length tallies = omega (arith, less, e.ports) in
    record {
      within = e.within;
      rests = rests;
      stand = subst (StandIn memory) (sym frames) e.stand;
      limit = omega (arith, limit);
      ports = length-set tallies port (counted outcome t) ∙ e.ports;
      rings = e.rings;
      records = omega (arith, e.records, one_changed records_of tallies port (counted outcome t) there, counted_records outcome t);
      calls = omega (arith, e.calls, calls);
      cuts = omega (arith, e.cuts, cuts);
      packets = omega (arith, e.packets, packets, one_changed sent_by tallies port (counted outcome t) there, counted_sent outcome t);
    }

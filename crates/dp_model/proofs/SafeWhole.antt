-- Whole runs of a pipeline: every node run is safe, and there is a run for each list of records.
use Rattle.std.proofs.Common.{◌≡◌, List, [], ◌∷◌, ◌++◌, length, replicate, refl, ap, arith}
use Rattle.std.specs.List.{AllByRecursion}
use Rattle.dp_model.specs.Machine.{Setting, World, live, segments_listed}
use Rattle.dp_model.specs.Runs.{between, Nodes, Arrival, Observed, Run, records_at, with_empty_outboxes, joined}
use Rattle.dp_model.specs.Safety.{IsAtRest, Beginning, IsSafeBeginning, IsPipeline, CanArrive, IsOfRun, KeepsRunsSafe, AreSafe}
use Rattle.dp_model.specs.Laws.Lists.{get_within}
use Rattle.dp_model.proofs.Counts.{tally_live}
use Rattle.dp_model.specs.Laws.Counts.{tally, fewer_owned, fewer_by}
use Rattle.dp_model.proofs.WholeRuns.{drained_ready}
use Rattle.dp_model.proofs.RunFolds.{run_keeps_each}
use Rattle.dp_model.specs.Laws.Waiting.{nothing_listed}
use Rattle.dp_model.specs.Laws.Runs.{safe_never_stuck, no_lists}
use Rattle.dp_model.proofs.SafeTurns.{turn_rest, turn_exists, turn_runs_safe}

-- ---- between turns

-- after the drains
pub drained_rest : (c : Setting) (w : World) → IsAtRest c w → IsAtRest c (with_empty_outboxes w)
drained_rest c w rest = record {
  ready = drained_ready c w rest.ready;
  owned = fewer_owned c.env.pools (live (between w)) (live (between (with_empty_outboxes w)))
      (fewer_by (live (between w)) (live (between (with_empty_outboxes w)))
      (λ test. let e : tally test (segments_listed (with_empty_outboxes w).outboxes) ≡ 0 = ap (tally test) (nothing_listed w.outboxes) in
      omega (arith, e, tally_live test (between w), tally_live test (between (with_empty_outboxes w)))))
      rest.owned;
  packets = record { held = tt; rings = rest.packets.rings; outboxes = no_lists w.outboxes };
}

-- ---- runs
pub run_rest : {T : Type 0} (c : Setting) (nodes : Nodes) (arrivals : List (Arrival T)) (w w' : World) (shown : Observed T) →
    IsPipeline c nodes → IsAtRest c w → Run c nodes arrivals w shown w' → IsAtRest c w'
run_rest c nodes arrivals w w' shown checked = run_keeps_each c nodes (IsAtRest c)
    (λ port bytes w mid outcome runs answers rest turn. drained_rest c mid (turn_rest c nodes port bytes w mid outcome runs answers checked rest turn))
    arrivals w w' shown

pub run_exists : {T : Type 0} (c : Setting) (nodes : Nodes) (arrivals : List (Arrival T)) (w : World) → IsPipeline c nodes → IsAtRest c w →
    AllByRecursion (CanArrive c) arrivals → (shown : Observed T) × (w' : World) × Run c nodes arrivals w shown w'
run_exists c nodes [] w pipeline rest can =
    (record { answers = []; outcomes = []; captures = replicate (length c.env.ports) [] }, w, (refl, refl))
run_exists {T} c nodes (a ∷ arrivals) w pipeline rest can =
    let (spec, is_spec) = get_within c.env.ports a.port can.0.port in
    let (outcome, runs, answers, mid, turn) = turn_exists c nodes a.port spec a.bytes w pipeline is_spec rest can.0.bytes in
    let after = drained_rest c mid (turn_rest c nodes a.port a.bytes w mid outcome runs answers pipeline rest turn) in
    let (others, w', run) = run_exists {T = T} c nodes arrivals (with_empty_outboxes mid) pipeline after can.1 in
    let shown : Observed T = record {
      answers = answers ++ others.answers;
      outcomes = outcome ∷ others.outcomes;
      captures = joined (records_at a.time mid) others.captures;
    } in
    (shown, w', (outcome, answers, runs, mid, others, turn, run, refl))

-- every node run of a run is safe
pub run_runs_safe : {T : Type 0} (c : Setting) (nodes : Nodes) (arrivals : List (Arrival T)) (w : World) (b : Beginning) → IsPipeline c nodes → IsAtRest c w →
    IsOfRun c nodes arrivals w b → IsSafeBeginning c b
run_runs_safe c nodes arrivals w b checked rest r =
    turn_runs_safe c nodes r.arrival.port r.arrival.bytes r.last b checked
    (run_rest c nodes r.before w r.last r.shown checked rest r.run) r.of_turn

-- they are, and after the run the next record can come
pub run_keeps : {T : Type 0} (c : Setting) (nodes : Nodes) (arrivals : List (Arrival T)) (w : World) → IsPipeline c nodes → IsAtRest c w →
    KeepsRunsSafe c nodes arrivals w
run_keeps c nodes arrivals w pipeline rest = record {
  runs = λ b. run_runs_safe c nodes arrivals w b pipeline rest;
  rests = λ shown w'. run_rest c nodes arrivals w w' shown pipeline rest;
}

pub run_safe : {T : Type 0} (c : Setting) (nodes : Nodes) (arrivals : List (Arrival T)) (w : World) → IsPipeline c nodes → IsAtRest c w →
    AllByRecursion (CanArrive c) arrivals → AreSafe c nodes arrivals w
run_safe c nodes arrivals w pipeline rest can =
    let keeps = run_keeps c nodes arrivals w pipeline rest in
    record {
      never_stuck = λ b of. safe_never_stuck c b (keeps.runs b of);
      keeps = keeps;
      exists = run_exists c nodes arrivals w pipeline rest can;
    }

-- A whole run has the captures of the copies.
use Rattle.std.proofs.Common.{◌≡◌, ℕ, ◌+◌, Bool, List, [], ◌∷◌, ◌++◌, map, Option, Some, ◌∙◌, ap, arith, sym, append_assoc}
use Rattle.std.specs.Prelude.{option_map, option_and_then}
use Rattle.std.proofs.lemmas.List.{append-nil}
use Rattle.dp_model.specs.CopyMachine.{Copy, CopyState, copy_start, copy_turn, copy_records_at, copy_run, Captures, copy_bytes}
use Rattle.dp_model.specs.Copies.{copy_of}
use Rattle.dp_model.specs.Machine.{Setting, World}
use Rattle.dp_model.specs.Runs.{Outcome, Nodes, Arrival, Observed, Run, joined, between, records_at, with_empty_outboxes}
use Rattle.dp_model.specs.Starts.{IsStart}
use Rattle.dp_model.specs.Laws.Limits.{HaveRoom}
use Rattle.dp_model.specs.Laws.Within.{IsInside, start_inside}
use Rattle.dp_copies.proofs.Lists.{empty_lists, no_lists}
use Rattle.dp_copies.proofs.Landings.{Shows, Lands, stays}
use Rattle.dp_copies.proofs.Turns.{turn_lands}
use Rattle.dp_copies.proofs.Drains.{lists_records, drained_inside}

-- a turn, the drains, and the rest of the run
drains : {T : Type 0} (time : T) (run : CopyState → Option (List (List (T × List ℕ)) × CopyState)) (o : Option (Outcome × CopyState)) (outcome : Outcome)
    (x z : CopyState) (records more captures : List (List (T × List ℕ))) → o ≡ Some (outcome, x) → copy_records_at time x ≡ records →
    run (record x { outboxes = map (λ _. []) x.outboxes }) ≡ Some (more, z) → captures ≡ joined records more →
    option_and_then {T = Outcome × CopyState} {U = List (List (T × List ℕ))
    × CopyState} (λ m. option_map {T = List (List (T × List ℕ)) × CopyState} {U = List (List (T × List ℕ))
    × CopyState} (λ rest. (joined (copy_records_at time m.1) rest.0, rest.1)) (run (record m.1 { outboxes = map (λ _. []) m.1.outboxes }))) o
    ≡ Some (captures, z)
drains {T} time run o outcome x z records more captures turn drained rest are =
    ap (option_and_then (λ m. option_map {T = List (List (T × List ℕ)) × CopyState} {U = List (List (T × List ℕ))
    × CopyState} (λ rest. (joined (copy_records_at time m.1) rest.0, rest.1)) (run (record m.1 { outboxes = map (λ _. []) m.1.outboxes })))) turn
    ∙ (ap (option_map {T = List (List (T × List ℕ)) × CopyState} {U = List (List (T × List ℕ))
    × CopyState} (λ rest. (joined (copy_records_at time x) rest.0, rest.1))) rest
    ∙ (ap (λ r. Some (joined r more, z)) drained ∙ ap (λ cs. Some (cs, z)) (sym are)))

-- each record in turn
pub run_lands : {T : Type 0} (c : Setting) (nodes : Nodes) (arrivals : List (Arrival T)) (w w' : World) (later : List Bool) (shown : Observed T)
    (x : CopyState) → HaveRoom c.env → IsInside c (between w) → Shows c.env.pools w (shown.answers ++ later) x → Run c nodes arrivals w shown w' →
    Lands c w' later (λ fuel. copy_run c.env c.tables fuel nodes arrivals x) (λ t. (shown.captures, t))
run_lands {T} c nodes [] w w' later shown x rooms well shows (none, is) =
    stays c w w' shown.answers later x (λ fuel. copy_run c.env c.tables fuel nodes [] x) (λ t. (shown.captures, t)) well shows
    (ap (λ (s : Observed T). s.answers) none) is (λ fuel. ap (λ (s : Observed T). Some (s.captures, x)) (sym none))
run_lands {T} c nodes (a ∷ arrivals) w w' later shown x rooms well shows (outcome, answers, runs, mid, rest, turn, run, is) =
    let pools = c.env.pools in
    let split : shown.answers ++ later ≡ answers ++ (rest.answers ++ later) = ap (λ (s : Observed T). s.answers ++ later) is
    ∙ append_assoc answers rest.answers later in
    let first = turn_lands c nodes a.port a.bytes w mid outcome runs answers (rest.answers
    ++ later) x rooms well (record { rings = shows.rings; outboxes = shows.outboxes; to_answer = shows.to_answer ∙ split; cuts = shows.cuts }) turn in
    let y : CopyState = record first.state { outboxes = map (λ _. []) first.state.outboxes } in
    let others = run_lands c nodes arrivals (with_empty_outboxes mid) w' later rest y rooms (drained_inside c mid first.within)
    (record {
      rings = first.shows.rings;
      outboxes = ap (map (λ _. [])) first.shows.outboxes
          ∙ empty_lists (copy_of pools mid.buffers) mid.outboxes;
      to_answer = first.shows.to_answer;
      cuts = first.shows.cuts;
    }) run in
    let all : List (List Copy) → List (List (T × List ℕ)) = map (map (λ k. (a.time, copy_bytes k))) in
    let records : copy_records_at a.time first.state ≡ records_at a.time mid = ap all first.shows.outboxes
    ∙ lists_records a.time pools mid.buffers mid.outboxes in
    record {
      state = others.state;
      shows = others.shows;
      enough = first.enough + others.enough;
      lands = λ fuel le.
          drains a.time (copy_run c.env c.tables fuel nodes arrivals) (copy_turn c.env c.tables fuel nodes a.port a.bytes x) outcome first.state others.state
          (records_at a.time mid) rest.captures shown.captures (first.lands fuel (omega (arith, le))) records (others.lands fuel (omega (arith, le)))
          (ap (λ (s : Observed T). s.captures) is);
      within = others.within;
    }

-- a whole run has the captures of the copies
pub run_copies : {T : Type 0} (c : Setting) (nodes : Nodes) (arrivals : List (Arrival T)) (w w' : World) (shown : Observed T) → HaveRoom c.env →
    IsStart c.env w → Run c nodes arrivals w shown w' → Captures c.env c.tables nodes arrivals shown.answers shown.captures w'.cuts
run_copies c nodes arrivals w w' shown rooms start run =
    let copy = copy_of c.env.pools w.buffers in
    let lands = run_lands c nodes arrivals w w' [] shown (copy_start c.env shown.answers) rooms (start_inside c w start)
    (record {
      rings = no_lists copy c.env.rings ∙ ap (map (map copy)) (sym start.rings);
      outboxes = no_lists copy c.env.ports ∙ ap (map (map copy)) (sym start.outboxes);
      to_answer = sym (append-nil shown.answers);
      cuts = sym start.cuts;
    }) run in
    (lands.enough, lands.state, lands.lands lands.enough (omega arith), lands.shows.to_answer, lands.shows.cuts)

-- What a watcher is shown of a turn is whole node runs.
use Rattle.std.proofs.Common.{◌≡◌, ℕ, zero, suc, Bool, List, [], ◌∷◌, ◌++◌, Option, Some, None, sym, ◌∙◌, ap, subst}
use Rattle.std.proofs.Common.{append_assoc, append-nil}
use Rattle.std.specs.Prelude.{MatchOption, if◌then◌else◌, nat_lt}
use Rattle.dp_model.specs.declared.instr.Instr.{Instr}
use Rattle.dp_model.specs.Packets.{Packet}
use Rattle.dp_model.specs.Machine.{Setting, World, State, Next, At, Ended, Move, budgeted, is_backward, with_jump, cut_off, jump_budget}
use Rattle.dp_model.specs.Runs.{Then, first_state, Outcome, Got, NoBuffer, Oversize, Waiting, first_waiting, Nodes}
use Rattle.dp_model.specs.Safety.{Beginning}
use Rattle.dp_engine.specs.declared.watch.Way.{Way}
use Rattle.dp_engine.specs.declared.watch.Way.TheVariants.{On, To, Out, Cut}
use Rattle.dp_engine.specs.Watching.{Event, Began, Ran, ShowsStep, Passes, ShowsRun, ShowsArrival, ShowsServing, of_ring}
use Rattle.dp_engine.specs.Watching.{FollowFrom, after_step, TurnsAreRuns}

-- the end of a node run is no jump
still_ended : (label : ℕ) (m : Move) → m.next ≡ Ended → (budgeted label m).next ≡ Ended
still_ended label m is =
    subst (λ next. (if is_backward label next then (if nat_lt m.state.jumps jump_budget then with_jump m else cut_off m) else m).next ≡ Ended) (sym is) is

abbrev next_of : Option ℕ → Next
next_of None = Ended
next_of (Some label) = At label

-- where a step led
next_is : (c : Setting) (program : List Instr) (label : ℕ) (s : State) (way : Way) (state : State) (m : Move) → ShowsStep c program label s way state m
    → m.next ≡ next_of (after_step label way)
next_is c program label s On state m st = st.led.0
next_is c program label s (To to) state m st = st.led.0
next_is c program label s Out state m st = ap (λ (x : Move). x.next) st.step.is ∙ still_ended label st.step.effect st.led.0
next_is c program label s Cut state m st = ap (λ (x : Move). x.next) st.led.0

never : {A : Type 0} (label : ℕ) → Ended ≡ At label → A
never label e = cc

-- the steps of a node run, and then more runs
passes_follow : (c : Setting) (program : List Instr) (label : ℕ) (s : State) (events : List Event) (answers : List Bool) (s' : State) (more : List Event)
    → Passes c program label s events answers Ended s' → FollowFrom None more → FollowFrom (Some label) (events ++ more)
passes_follow c program label s [] answers s' more (bad, _, _) after = never label bad
passes_follow c program label s (Began node state ∷ events) answers s' more bad after = absurd bad
passes_follow c program label s (Ran at way state ∷ events) answers s' more (m, later, is_at, st, _, on) after = (
  is_at,
  go (after_step label way)
      (subst (λ next. Then next (λ l. Passes c program l m.state events later Ended s') ((Ended ≡ Ended) × (events ≡ []) × (later ≡ []) × (s' ≡ m.state)))
      (next_is c program label s way state m st) on)
      (λ l h. passes_follow c program l m.state events later s' more h after),
)
  where
    go : (pos : Option ℕ) → Then (next_of pos) (λ l. Passes c program l m.state events later Ended s') ((Ended ≡ Ended) × (events ≡ []) × (later ≡ [])
        × (s' ≡ m.state)) → ((l : ℕ) → Passes c program l m.state events later Ended s' → FollowFrom (Some l) (events ++ more))
        → FollowFrom pos (events ++ more)
    go (Some l) h on = on l h
    go None (_, none, _, _) on = subst (λ es. FollowFrom None (es ++ more)) (sym none) after

-- a node run
run_follows : (c : Setting) (b : Beginning) (answers : List Bool) (w' : World) (events more : List Event) → ShowsRun c b answers w' events
    → FollowFrom None more → FollowFrom None (events ++ more)
run_follows c b answers w' events more h after =
    let begun : FollowFrom None (Began b.entry (first_state b.packet b.number b.world) ∷ (h.steps ++ more)) =
    passes_follow c b.program 0 (first_state b.packet b.number b.world) h.steps answers h.last more h.passes after in
    subst (λ es. FollowFrom None (es ++ more)) (sym h.events_are) begun

nothing_follows : (events more : List Event) → events ≡ [] → FollowFrom None more → FollowFrom None (events ++ more)
nothing_follows events more none after = subst (λ es. FollowFrom None (es ++ more)) (sym none) after

-- the node run of a record
arrival_follows : (c : Setting) (nodes : Nodes) (port : ℕ) (bytes : List ℕ) (w : World) (outcome : Outcome) (answers : List Bool) (w' : World)
    (events more : List Event) → ShowsArrival c nodes port bytes w outcome answers w' events → FollowFrom None more → FollowFrom None (events ++ more)
arrival_follows c nodes port bytes w Got answers w' events more (b, later, _, _, shows) after = run_follows c b later w' events more shows after
arrival_follows c nodes port bytes w NoBuffer answers w' events more (_, _, _, _, _, none) after = nothing_follows events more none after
arrival_follows c nodes port bytes w Oversize answers w' events more (_, _, _, _, _, none) after = nothing_follows events more none after

matched : {K : Type 0} (A : Type 0) (B : K → Type 0) (D : Type 0) (o : Option K) → MatchOption o A B → (A → D) → ((k : K) → B k → D) → D
matched A B D None h none some = none h
matched A B D (Some k) h none some = some k h

-- node runs on packets of rings
serving_follows : (c : Setting) (programs : List (List Instr)) (n : ℕ) (w : World) (answers : List Bool) (runs : ℕ) (w' : World)
    (events more : List Event) → ShowsServing c programs n w answers runs w' events → FollowFrom None more → FollowFrom None (events ++ more)
serving_follows c programs zero w answers runs w' events more (_, _, _, none) after = nothing_follows events more none after
serving_follows c programs (suc n) w answers runs w' events more h after =
    matched _ _ (FollowFrom None (events ++ more)) (first_waiting w.rings) h (λ (_, _, _, none). nothing_follows events more none after)
    (λ (next : Waiting Packet) (program, now, later, mid, others, first, rest, _, shows, serves, _, _, all).
    subst (λ es. FollowFrom None (es ++ more)) (sym all)
    (subst (FollowFrom None) (sym (append_assoc first rest more))
    (run_follows c (of_ring program next w) now mid first (rest ++ more) shows
    (serving_follows c programs n mid later others w' rest more serves after))))

pub turns_follow : TurnsAreRuns
turns_follow c nodes port bytes w outcome runs answers w' events t =
    let rest : FollowFrom None t.rest =
    subst (FollowFrom None) (append-nil t.rest) (serving_follows c nodes.rings 32 t.mid t.later t.more w' t.rest [] t.serves tt) in
    subst (FollowFrom None) (sym t.events_are) (arrival_follows c nodes port bytes w outcome t.now t.mid t.first t.rest t.arrives rest)

-- What each step, node run or turn carries over, runs carry over.
use Rattle.std.proofs.Common.{◌≡◌, ◌⊎◌, ℕ, zero, suc, ◌+◌, Bool, List, [], ◌∷◌, ◌++◌, Option, Some, None, refl, sym, subst, inl, inr}
use Rattle.std.specs.Prelude.{slice_get, MatchOption}
use Rattle.dp_model.specs.declared.instr.Instr.{Instr}
use Rattle.dp_model.specs.Packets.{Packet}
use Rattle.dp_model.specs.Machine.{Setting, World, State, Next, At, Ended, Move, Step}
use Rattle.dp_model.specs.Runs.{Then, StepsTo, NodeRun, Waiting, first_waiting, Serves, Outcome, Nodes, Turn, Arrival, Observed, Run, with_empty_outboxes}

-- ---- the steps of a node run

pub goes_keeps : (c : Setting) (program : List Instr) (P : State → Type 0) → ((label : ℕ) (s : State) (m : Move) → P s → Step c program label s m → P m.state) →
    (n label : ℕ) (s : State) (answers : List Bool) (next : Next) (s' : State) → P s → StepsTo c program n label s answers next s' → P s'
goes_keeps c program P each zero label s answers next s' here (_, _, is) = subst P (sym is) here
goes_keeps c program P each (suc n) label s answers next s' here (m, later, st, _, rest) =
    go m.next rest (each label s m here st) (λ l. goes_keeps c program P each n l m.state later next s')
  where
    go : (x : Next) → Then x (λ l. StepsTo c program n l m.state later next s') ((next ≡ Ended) × (n ≡ 0) × (later ≡ []) × (s' ≡ m.state)) → P m.state →
        ((l : ℕ) → P m.state → StepsTo c program n l m.state later next s' → P s') → P s'
    go (At l) rest here on = on l here rest
    go Ended (_, _, _, is) here on = subst P (sym is) here

-- ---- node runs on packets of rings

-- what holds where nothing is served, and is carried over one node run, holds of all
pub serves_fold : (c : Setting) (programs : List (List Instr)) (M : ℕ → World → World → List Bool → ℕ → Type 0) →
    ((n : ℕ) (w : World) → (0 ≡ n) ⊎ (first_waiting w.rings ≡ None) → M n w w [] 0) →
    ((n more : ℕ) (w mid w' : World) (next : Waiting Packet) (program : List Instr) (now later : List Bool) → first_waiting w.rings ≡ Some next →
    slice_get programs next.ring ≡ Some program → NodeRun c program next.packet next.ring (record w { rings = next.rings }) now mid →
    M n mid w' later more → M (suc n) w w' (now ++ later) (more + 1)) →
    (n : ℕ) (w w' : World) (answers : List Bool) (runs : ℕ) → Serves c programs n w answers runs w' → M n w w' answers runs
serves_fold c programs M none one zero w w' answers runs (no_answers, no_runs, is) = rw (no_answers, no_runs, is) (none zero w (inl refl))
serves_fold c programs M none one (suc n) w w' answers runs serves =
    go (first_waiting w.rings) refl serves (λ mid later more. serves_fold c programs M none one n mid w' later more)
  where
    go : (o : Option (Waiting Packet)) → first_waiting w.rings ≡ o → MatchOption o ((answers ≡ []) × (runs ≡ 0) × (w' ≡ w)) (λ next. (program : List Instr)
        × (now later : List Bool) × (mid : World) × (more : ℕ) × (slice_get programs next.ring ≡ Some program)
        × NodeRun c program next.packet next.ring (record w { rings = next.rings }) now mid × Serves c programs n mid later more w' × (answers ≡ now ++ later)
        × (runs ≡ more + 1)) → ((mid : World) (later : List Bool) (more : ℕ) → Serves c programs n mid later more w' → M n mid w' later more) →
        M (suc n) w w' answers runs
    go None e (no_answers, no_runs, is) on = rw (no_answers, no_runs, is) (none (suc n) w (inr e))
    go (Some next) e (program, now, later, mid, more, is_program, run, serves, are, count) on =
        rw (are, count) (one n more w mid w' next program now later e is_program run (on mid later more serves))

-- ---- turns

-- what each turn with its drains keeps, a whole run keeps
pub run_keeps_each : {T : Type 0} (c : Setting) (nodes : Nodes) (P : World → Type 0) → ((port : ℕ) (bytes : List ℕ) (w mid : World) (outcome : Outcome)
    (runs : ℕ) (answers : List Bool) → P w → Turn c nodes port bytes w outcome runs answers mid → P (with_empty_outboxes mid)) →
    (arrivals : List (Arrival T)) (w w' : World) (shown : Observed T) → P w → Run c nodes arrivals w shown w' → P w'
run_keeps_each c nodes P each [] w w' shown here (_, is) = subst P (sym is) here
run_keeps_each c nodes P each (a ∷ arrivals) w w' shown here (outcome, answers, runs, mid, rest, turn, run, _) =
    run_keeps_each c nodes P each arrivals (with_empty_outboxes mid) w' rest (each a.port a.bytes w mid outcome runs answers here turn) run

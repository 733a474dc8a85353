-- A run continues with a turn and the drains after it.
use Rattle.std.proofs.Common.{◌≡◌, ◌≢◌, ℕ, zero, suc, ◌+◌, ◌<◌, ◌≤◌, Bool, true, false, List, [], ◌∷◌, ◌++◌, length, Some, refl, sym, ◌∙◌}
use Rattle.std.proofs.Common.{ap, subst, arith, ◌⊎◌, inl, inr}
use Rattle.std.specs.Prelude.{slice_get, ◌==◌, if◌then◌else◌, replicate}
use Rattle.std.specs.Option.{option_map_or}
use Rattle.std.proofs.lemmas.Bool.{lt-ltb, eq-eqb, ne_eqb}
use Rattle.std.proofs.lemmas.List.{length-append, length-map, length-set}
use Rattle.std.proofs.lemmas.Option.{same_Some, slice_get_within}
use Rattle.dp_pcap.specs.declared.time.Time.{Time}
use Rattle.dp_pcap.specs.declared.time.Unit.{Unit as TimeUnit}
use Rattle.dp_model.specs.Machine.{Setting, World}
use Rattle.dp_model.specs.Runs.{Arrival, Outcome, Got, NoBuffer, Oversize, Nodes, Observed, Run, records_at, joined, with_empty_outboxes}
use Rattle.dp_model.specs.Laws.Runs.{with_turn, run_push}
use Rattle.dp_engine.specs.declared.report.Tallies.{Tallies}
use Rattle.dp_engine.specs.Drains.{captured}
use Rattle.dp_engine.specs.Tallies.{counted}
use Rattle.dp_engine.specs.Engines.{EngineState, tallies_at, counted_at}
use Rattle.dp_pipe.specs.Devices.{Device}
use Rattle.dp_pipe.specs.Forwarding.{capture_of, drained_at, first_emptied, tally_of, HasRun, HasTurn, DrainedFirst}
use Rattle.dp_pipe.proofs.Forwarded.{emptied_all, tallies_other, tallies_same, split}

abbrev pub arrival : ℕ → Time → List ℕ → Arrival Time
arrival port time bytes = record { port = port; time = time; bytes = bytes }

-- what the run of an engine shows
abbrev pub shown_in : {e e' : EngineState} {arrivals : List (Arrival Time)} {captures : List (List (Time × List ℕ))} → HasRun e e' arrivals captures
    → Observed Time
shown_in {e} {e'} {arrivals} {captures} run = record { answers = run.answers; outcomes = run.outcomes; captures = captures }

-- each record has an outcome
pub outcomes_many : (c : Setting) (nodes : Nodes) (arrivals : List (Arrival Time)) (w w' : World) (shown : Observed Time)
    → Run c nodes arrivals w shown w' → length shown.outcomes ≡ length arrivals
outcomes_many c nodes [] w w' shown (none, is) = ap (λ (s : Observed Time). length s.outcomes) none
outcomes_many c nodes (a ∷ arrivals) w w' shown (outcome, answers, runs, mid, rest, turn, run, is) =
    ap (λ (s : Observed Time). length s.outcomes) is ∙ ap suc (outcomes_many c nodes arrivals (with_empty_outboxes mid) w' rest run)

-- as many captures as ports, at most
pub captures_many : (c : Setting) (nodes : Nodes) (arrivals : List (Arrival Time)) (w w' : World) (shown : Observed Time)
    → Run c nodes arrivals w shown w' → length shown.captures ≤ length c.env.ports
captures_many c nodes [] w w' shown (none, is) = omega (arith, ap (λ (s : Observed Time). length s.captures) none, length_none (length c.env.ports))
  where
    length_none : (n : ℕ) → length {A = List (Time × List ℕ)} (replicate n []) ≡ n
    length_none zero = refl
    length_none (suc n) = ap suc (length_none n)
captures_many c nodes (a ∷ arrivals) w w' shown (outcome, answers, runs, mid, rest, turn, run, is) =
    omega (
      arith,
      ap (λ (s : Observed Time). length s.captures) is,
      shorter (records_at a.time mid) rest.captures,
      captures_many c nodes arrivals (with_empty_outboxes mid) w' rest run,
    )
  where
    shorter : {A : Type 0} (xs ys : List (List A)) → length (joined xs ys) ≤ length ys
    shorter [] ys = omega arith
    shorter (x ∷ xs) [] = omega arith
    shorter (x ∷ xs) (y ∷ ys) = let more = shorter xs ys in omega (arith, more)

-- the counts after one more
pub tally_more : (port : ℕ) (arrivals : List (Arrival Time)) (outcomes : List Outcome) (a : Arrival Time) (o : Outcome) (t : Tallies) →
    length outcomes ≡ length arrivals
    → tally_of port (arrivals ++ a ∷ []) (outcomes ++ o ∷ []) t ≡ (if a.port == port then counted o (tally_of port arrivals outcomes t)
    else tally_of port arrivals outcomes t)
tally_more port [] [] a o t many = refl
tally_more port [] (x ∷ outcomes) a o t many = absurd (omega (arith, many))
tally_more port (b ∷ arrivals) [] a o t many = absurd (omega (arith, many))
tally_more port (b ∷ arrivals) (x ∷ outcomes) a o t many = tally_more port arrivals outcomes a o (if b.port == port then counted x t else t)
    (omega (arith, many))

-- counting an outcome leaves what was sent
pub counted_sent : (o : Outcome) (t : Tallies) (n : ℕ) → counted o (record t { sent = n }) ≡ record (counted o t) { sent = n }
counted_sent Got t n = refl
counted_sent NoBuffer t n = refl
counted_sent Oversize t n = refl

-- the indexes of lists that are joined
pub joined_at : {A : Type 0} (xs ys : List (List A)) (q : ℕ) (zs : List A) → slice_get (joined xs ys) q ≡ Some zs →
    (x : List A) × (y : List A) × (slice_get xs q ≡ Some x) × (slice_get ys q ≡ Some y) × (zs ≡ x ++ y)
joined_at [] ys q zs e = cc
joined_at (x ∷ xs) [] q zs e = cc
joined_at (x ∷ xs) (y ∷ ys) zero zs e = (x, y, refl, refl, sym (same_Some _ _ e))
joined_at (x ∷ xs) (y ∷ ys) (suc q) zs e = joined_at xs ys q zs e

-- the counts of a port after a turn
pub turn_tally : (q port : ℕ) (o : Outcome) (tallies : List Tallies) → port < length tallies
    → tallies_at (counted_at port o tallies) q ≡ (if port == q then counted o (tallies_at tallies q) else tallies_at tallies q)
turn_tally q port o tallies lt = go (split q port)
  where
    go : (q ≡ port) ⊎ (q ≢ port) → tallies_at (counted_at port o tallies) q ≡ (if port == q then counted o (tallies_at tallies q) else tallies_at tallies q)
    go (inl same) = rw (same, eq-eqb port port refl) (tallies_same tallies port (counted o (tallies_at tallies port)) lt)
    go (inr other) = rw (ne_eqb port q (λ e. other (sym e))) (tallies_other tallies port q (counted o (tallies_at tallies port)) other)

-- the counts of a port after a turn and the drains: what was counted, and what was sent
sums : (here : Bool) (o : Outcome) (base t1 t2 t3 after : Tallies) (n before now all : ℕ) → t1 ≡ record base { sent = n + before }
    → t2 ≡ (if here then counted o t1 else t1) → t3 ≡ record t2 { sent = t2.sent + now } → after ≡ (if here then counted o base else base)
    → all ≡ before + now → t3 ≡ record after { sent = n + all }
sums true o base t1 t2 t3 after n before now all was turned drained is many =
    drained ∙ ap (λ (t : Tallies). record t { sent = t.sent + now }) (turned ∙ ap (counted o) was ∙ counted_sent o base (n + before))
    ∙ ap (λ m. record (counted o base) { sent = m }) (omega (arith, many)) ∙ ap (λ (t : Tallies). record t { sent = n + all }) (sym is)
sums false o base t1 t2 t3 after n before now all was turned drained is many =
    drained ∙ ap (λ (t : Tallies). record t { sent = t.sent + now }) (turned ∙ was)
    ∙ ap (λ m. record base { sent = m }) (omega (arith, many)) ∙ ap (λ (t : Tallies). record t { sent = n + all }) (sym is)

pub run_on : (e e1 e2 e3 : EngineState) (port : ℕ) (time : Time) (bytes : List ℕ) (arrivals : List (Arrival Time)) (captures : List (List (Time × List ℕ)))
    (unit : TimeUnit) (mids holds : List Device)
    → port < length e.tallies → length e2.world.outboxes ≡ length e.setting.env.ports
    → HasRun e e1 arrivals captures → HasTurn port e1 e2 bytes → DrainedFirst (length e.setting.env.ports) unit time e2 e3 mids holds
    → HasRun e e3 (arrivals ++ arrival port time bytes ∷ []) (joined captures (records_at time e2.world))
run_on e e1 e2 e3 port time bytes arrivals captures unit mids holds there boxes run turn all =
    let setting1 = ap (λ (x : EngineState). x.setting) run.stays in
    let nodes1 = ap (λ (x : EngineState). x.nodes) run.stays in
    let turned = rw (setting1, nodes1) at turn.turn in
    let pushed = run_push e.setting e.nodes arrivals (arrival port time bytes) e.world e1.world e2.world (shown_in run) turn.outcome turn.runs
    turn.answers boxes run.run turned in
    let n = length e.setting.env.ports in
    let world3 : e3.world ≡ with_empty_outboxes e2.world =
    ap (λ (x : EngineState). x.world) all.is ∙ ap (λ l. record e2.world { outboxes = l }) (ap (λ m. first_emptied m e2.world.outboxes) (sym boxes)
    ∙ emptied_all e2.world.outboxes) in
    let many = outcomes_many e.setting e.nodes arrivals e.world e1.world (shown_in run) run.run in
    let stays2 : e2 ≡ record e { world = e2.world; turns = e1.turns + 1; tallies = e2.tallies } =
    subst (λ (x : EngineState). e2 ≡ record x { world = e2.world; turns = e1.turns + 1; tallies = e2.tallies }) run.stays
    (turn.is ∙ ap (λ ts. record e1 { world = e2.world; turns = e1.turns + 1; tallies = ts }) (sym (ap (λ (x : EngineState). x.tallies) turn.is))) in
    let stays3 : e3 ≡ record e { world = e3.world; turns = e1.turns + 1; tallies = e3.tallies } =
    subst (λ (x : EngineState). e3 ≡ record x { world = e3.world; tallies = e3.tallies }) stays2
    (all.is ∙ ap (λ w. record e2 { world = w; tallies = e3.tallies }) (sym (ap (λ (x : EngineState). x.world) all.is))) in
    let turns3 : e3.turns ≡ e1.turns + 1 = ap (λ (x : EngineState). x.turns) stays3 in
    record {
      answers = run.answers ++ turn.answers;
      outcomes = run.outcomes ++ turn.outcome ∷ [];
      run = subst (Run e.setting e.nodes (arrivals ++ arrival port time bytes ∷ []) e.world
          (with_turn time turn.outcome turn.answers e2.world (shown_in run))) (sym world3) pushed;
      turns = omega (arith, turns3, run.turns, length-append arrivals (arrival port time bytes ∷ []));
      each = all.each ∙ ap (λ (x : EngineState). length x.tallies) turn.is ∙ length-set e1.tallies port (counted turn.outcome (tallies_at e1.tallies port))
          ∙ run.each;
      tallies = λ q sent at. tallied q sent (joined_at captures (records_at time e2.world) q sent at) many;
      stays = stays3 ∙ ap (λ m. record e { world = e3.world; turns = m; tallies = e3.tallies }) (sym turns3);
    }
  where
    tallied : (q : ℕ) (sent : List (Time × List ℕ)) → ((x : List (Time × List ℕ)) × (y : List (Time × List ℕ)) × (slice_get captures q ≡ Some x)
        × (slice_get (records_at time e2.world) q ≡ Some y) × (sent ≡ x ++ y)) → length run.outcomes ≡ length arrivals
        → tallies_at e3.tallies q ≡ record (tally_of q (arrivals ++ arrival port time bytes ∷ []) (run.outcomes
        ++ turn.outcome ∷ []) (tallies_at e.tallies q)) { sent = (tallies_at e.tallies q).sent + length sent }
    tallied q sent (x, y, was, now, is) many =
        let q_in : q < length e.setting.env.ports = omega (
          arith,
          slice_get_within captures q x was,
          captures_many e.setting e.nodes arrivals e.world e1.world (shown_in run) run.run,
        ) in
        let setting2 : e2.setting ≡ e.setting = ap (λ (z : EngineState). z.setting) turn.is ∙ ap (λ (z : EngineState). z.setting) run.stays in
        let t1 = run.tallies q x was in
        let t2 = ap (λ (z : EngineState). tallies_at z.tallies q) turn.is ∙ turn_tally q port turn.outcome e1.tallies (omega (arith, there, run.each)) in
        let wrote : length (drained_at time e2.world q) ≡ length y = ap (λ o. length (option_map_or capture_of o [])) now ∙ length-map y captured in
        let t3 : tallies_at e3.tallies q ≡ record (tallies_at e2.tallies q) { sent = (tallies_at e2.tallies q).sent + length y } =
        rw (lt-ltb q (length e.setting.env.ports) q_in, wrote) at (all.tallies q (subst (λ (s : Setting). q < length s.env.ports) (sym setting2) q_in)) in
        let after = tally_more q arrivals run.outcomes (arrival port time bytes) turn.outcome (tallies_at e.tallies q) many in
        let long_sent : length sent ≡ length x + length y = ap length is ∙ length-append x y in
        sums (port == q) turn.outcome (tally_of q arrivals run.outcomes (tallies_at e.tallies q)) (tallies_at e1.tallies q) (tallies_at e2.tallies q)
        (tallies_at e3.tallies q) (tally_of q (arrivals ++ arrival port time bytes ∷ []) (run.outcomes ++ turn.outcome ∷ []) (tallies_at e.tallies q))
        (tallies_at e.tallies q).sent (length x) (length y) (length sent) t1 t2 t3 after long_sent

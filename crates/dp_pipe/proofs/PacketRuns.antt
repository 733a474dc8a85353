-- A run of an engine is a run of packets: no node run in it is stuck, and its captures are those of copies.
use Rattle.std.proofs.Common.{◌≡◌, ℕ, zero, suc, ◌+◌, Bool, List, [], length, replicate, Some, None, refl, sym, ◌∙◌, ap, arith, zero-add}
use Rattle.std.specs.Prelude.{slice_get}
use Rattle.std.specs.Option.{option_map_or}
use Rattle.std.proofs.lemmas.List.{length-map}
use Rattle.std.proofs.lemmas.Slice.Zip.{AllZip-long}
use Rattle.dp_model.specs.Laws.Lists.{get_within}
use Rattle.dp_pcap.specs.declared.time.Time.{Time}
use Rattle.dp_model.specs.Environments.{fault_of}
use Rattle.dp_model.specs.Machine.{Setting, World}
use Rattle.dp_model.specs.Meaning.{TablesFit}
use Rattle.dp_model.specs.Runs.{Nodes, Arrival, Outcome, Observed, Run}
use Rattle.dp_model.specs.Safety.{IsPipeline, KeepsRunsSafe}
use Rattle.dp_model.specs.Starts.{IsStart}
use Rattle.dp_model.specs.Laws.Runs.{safe_never_stuck}
use Rattle.dp_model.specs.CopyMachine.{Captures}
use Rattle.dp_engine.specs.declared.report.Tallies.{Tallies}
use Rattle.dp_engine.specs.Drains.{captured}
use Rattle.dp_engine.specs.Engines.{EngineState, no_tallies, tallies_at}
use Rattle.dp_pipe.specs.Forwarding.{HasRun, capture_at, capture_of, tally_of}
use Rattle.dp_pipe.specs.Headline.{PacketRun}
use Rattle.dp_engine.specs.Laws.{plan_of}
use Rattle.dp_load.specs.Pipelines.{Plan, IsPlan}
use Rattle.dp_pipe.specs.Laws.{are_nodes, all_checked}
use Rattle.dp_pipe.specs.Running.{IsFirst, setting_in, programs_in}
use Rattle.dp_pipe.proofs.RunOn.{shown_in}
use Rattle.dp_pipe.proofs.Numbers.{IsCounted}

-- the laws of runs that a run of a pipeline needs: its node runs are safe, and its captures are those of the copies
pub record AreLaws : Type 0 where
  pub safe : (c : Setting) (nodes : Nodes) (arrivals : List (Arrival Time)) (w : World) → TablesFit c → IsPipeline c nodes → IsStart c.env w
      → KeepsRunsSafe c nodes arrivals w
  pub copies : (c : Setting) (nodes : Nodes) (arrivals : List (Arrival Time)) (w w' : World) (shown : Observed Time)
      → fault_of c.env ≡ None → IsStart c.env w → Run c nodes arrivals w shown w'
      → Captures c.env c.tables nodes arrivals shown.answers shown.captures w'.cuts

-- a pipeline of checked programs, within the limits, whose tables are as its environment has them
pub record IsReady (p : Plan) (pattern : List ℕ) : Type 0 where
  pub limits : fault_of p.env ≡ None
  pub pipeline : IsPipeline (setting_in p pattern) (programs_in p)
  pub tables : TablesFit (setting_in p pattern)
  pub laws : AreLaws

pub is_ready : (p : Plan) (pattern : List ℕ) → IsPlan p → AreLaws → IsReady p pattern
is_ready p pattern plan laws =
    let engine =
    plan_of p.env p.tables p.nodes pattern plan.limits (are_nodes p.env p.nodes plan.nodes) plan.tables (all_checked p.env p.nodes plan.nodes) plan.hops in
    record { limits = plan.limits; pipeline = engine.pipeline; tables = engine.tables_fit; laws = laws }

-- so its runs are safe
pub safe_runs : (p : Plan) (pattern : List ℕ) (arrivals : List (Arrival Time)) (w : World) → IsReady p pattern → IsStart p.env w
    → KeepsRunsSafe (setting_in p pattern) (programs_in p) arrivals w
safe_runs p pattern arrivals w ready start = ready.laws.safe (setting_in p pattern) (programs_in p) arrivals w ready.tables ready.pipeline start

abbrev pub packet_run : (p : Plan) (pattern : List ℕ) (arrivals : List (Arrival Time)) (first last : World) (answers : List Bool) (outcomes : List Outcome)
    (captures : List (List (Time × List ℕ)))
    → IsReady p pattern → IsStart p.env first
    → Run (setting_in p pattern) (programs_in p) arrivals first (record { answers = answers; outcomes = outcomes; captures = captures }) last →
    PacketRun p pattern arrivals
packet_run p pattern arrivals first last answers outcomes captures ready start run = record {
  first = first;
  start = start;
  answers = answers;
  outcomes = outcomes;
  captures = captures;
  last = last;
  run = run;
  never_stuck = λ b of. safe_never_stuck (setting_in p pattern) b ((safe_runs p pattern arrivals first ready start).runs b of);
  copies = ready.laws.copies (setting_in p pattern) (programs_in p) arrivals first last
      (record { answers = answers; outcomes = outcomes; captures = captures }) ready.limits start run;
}

-- after a run every ring exists
pub rings_there : {p : Plan} {pattern : List ℕ} {arrivals : List (Arrival Time)} → IsReady p pattern → (run : PacketRun p pattern arrivals) →
    length run.last.rings ≡ length p.env.rings
rings_there {p = p} {pattern = pattern} {arrivals = arrivals} ready run =
    let rest = (safe_runs p pattern arrivals run.first ready run.start).rests
    (record { answers = run.answers; outcomes = run.outcomes; captures = run.captures }) run.last run.run in
    AllZip-long _ p.env.rings run.last.rings rest.ready.world.rings

pub ran : {p : Plan} {pattern : List ℕ} {first last : EngineState} {arrivals : List (Arrival Time)} {captures : List (List (Time × List ℕ))} →
    IsFirst p pattern first → (r : HasRun first last arrivals captures)
    → Run (setting_in p pattern) (programs_in p) arrivals first.world (shown_in r) last.world
ran is r = rw (is.setting, is.nodes) at r.run

-- what an engine ran
abbrev pub run_of : {p : Plan} {pattern : List ℕ} {first last : EngineState} {arrivals : List (Arrival Time)} {captures : List (List (Time × List ℕ))}
    → IsReady p pattern → IsFirst p pattern first → HasRun first last arrivals captures → PacketRun p pattern arrivals
run_of {p = p} {pattern = pattern} {first = first} {last = last} {arrivals = arrivals} {captures = captures} ready is r =
    packet_run p pattern arrivals first.world last.world r.answers r.outcomes captures ready is.start (ran is r)

-- all counts are 0 at first
none_in : (n q : ℕ) → tallies_at (replicate n no_tallies) q ≡ no_tallies
none_in zero q = refl
none_in (suc n) zero = refl
none_in (suc n) (suc q) = none_in n q

pub none_at : (tallies : List Tallies) (q : ℕ) → tallies ≡ replicate 8 no_tallies → tallies_at tallies q ≡ no_tallies
none_at tallies q is = ap (λ (l : List Tallies). tallies_at l q) is ∙ none_in 8 q

-- how many records a port has sent
pub sent_many : (captures : List (List (Time × List ℕ))) (q : ℕ) (sent : List (Time × List ℕ)) → slice_get captures q ≡ Some sent →
    length (capture_at captures q) ≡ length sent
sent_many captures q sent at = ap (λ o. length (option_map_or capture_of o [])) at ∙ length-map sent captured

-- what it counted
pub counted_run : {p : Plan} {pattern : List ℕ} {first last : EngineState} {arrivals : List (Arrival Time)} {captures : List (List (Time × List ℕ))}
    → (ready : IsReady p pattern) → (is : IsFirst p pattern first) → (r : HasRun first last arrivals captures) → length captures ≡ length p.env.ports
    → IsCounted p pattern arrivals (run_of ready is r) last (λ q. length (capture_at captures q))
counted_run {first = first} {arrivals = arrivals} {captures = captures} ready is r many = record {
  setting = ap (λ (e : EngineState). e.setting) r.stays ∙ is.setting;
  tallies_many = r.each ∙ ap length is.tallies;
  tallies = λ q less.
      let (sent, at) = get_within captures q (omega (arith, less, many)) in
      r.tallies q sent at
      ∙ ap (λ (t : Tallies). record (tally_of q arrivals r.outcomes t) { sent = t.sent + length sent }) (none_at first.tallies q is.tallies)
      ∙ ap (λ n. record (tally_of q arrivals r.outcomes no_tallies) { sent = n }) (zero-add (length sent) ∙ sym (sent_many captures q sent at));
  left = ap (λ (e : EngineState). e.left) r.stays ∙ is.left;
  rings = refl;
  rings_many = rings_there ready (run_of ready is r);
  calls = refl;
  cuts = refl;
}

-- The counts of a report are those of a run.
use Rattle.std.proofs.Common.{◌≡◌, ℕ, zero, suc, ◌<◌, ◌≤◌, Bool, true, false, List, [], ◌∷◌, length, map, take, replicate, Some, refl, sym, ◌∙◌, ap}
use Rattle.std.proofs.Common.{arith, zero-add}
use Rattle.std.specs.Prelude.{slice_get, ◌==◌, if◌then◌else◌}
use Rattle.std.proofs.lemmas.List.{length-map, length-take-le}
use Rattle.std.proofs.lemmas.Option.{same_Some, slice_get_within}
use Rattle.dp_pcap.specs.declared.time.Time.{Time}
use Rattle.dp_model.specs.Machine.{Setting}
use Rattle.dp_model.specs.Runs.{Arrival, Outcome, Got, NoBuffer, Oversize, left_in_rings}
use Rattle.dp_engine.specs.declared.report.InputState.{InputState}
use Rattle.dp_engine.specs.declared.report.InputState.TheVariants.{Open}
use Rattle.dp_engine.specs.declared.report.PortReport.{PortReport}
use Rattle.dp_engine.specs.declared.report.Report.{Report}
use Rattle.dp_engine.specs.declared.report.Tallies.{Tallies}
use Rattle.dp_engine.specs.Engines.{EngineState, no_tallies, tallies_at, with_left}
use Rattle.dp_engine.specs.Reports.{port_report}
use Rattle.dp_engine.specs.Tallies.{Tallied, counted, how_many, is_got, is_nobuf, is_oversize}
use Rattle.dp_pipe.specs.declared.forwarding.InputProgress.{InputProgress}
use Rattle.dp_pipe.specs.Forwarding.{Input, tally_of}
use Rattle.dp_pipe.specs.Headline.{PacketRun, HasRunNumbers, outcomes_at, port_numbers}
use Rattle.dp_load.specs.Pipelines.{Plan}
use Rattle.dp_pipe.specs.Running.{IsReportOf, with_states, setting_in}

-- ---- what became of the records of a port

-- what is counted of a port is how many of its records had that outcome
pub tallied : (port : ℕ) (arrivals : List (Arrival Time)) (outcomes : List Outcome) (t : Tallies) →
    Tallied t (tally_of port arrivals outcomes t) (outcomes_at port arrivals outcomes) 0
tallied port [] outcomes t = record { received = omega arith; nobuf = omega arith; oversize = omega arith; sent_is = omega arith }
tallied port (a ∷ arrivals) [] t = record { received = omega arith; nobuf = omega arith; oversize = omega arith; sent_is = omega arith }
tallied port (a ∷ arrivals) (o ∷ outcomes) t = go (a.port == port) (tallied port arrivals outcomes t) (more o (tallied port arrivals outcomes (counted o t)))
  where
    more : (o : Outcome) → Tallied (counted o t) (tally_of port arrivals outcomes (counted o t)) (outcomes_at port arrivals outcomes) 0 →
        Tallied t (tally_of port arrivals outcomes (counted o t)) (o ∷ outcomes_at port arrivals outcomes) 0
    more Got c = record {
      received = omega (arith, c.received);
      nobuf = omega (arith, c.nobuf);
      oversize = omega (arith, c.oversize);
      sent_is = omega (arith, c.sent_is);
    }
    more NoBuffer c = record {
      received = omega (arith, c.received);
      nobuf = omega (arith, c.nobuf);
      oversize = omega (arith, c.oversize);
      sent_is = omega (arith, c.sent_is);
    }
    more Oversize c = record {
      received = omega (arith, c.received);
      nobuf = omega (arith, c.nobuf);
      oversize = omega (arith, c.oversize);
      sent_is = omega (arith, c.sent_is);
    }

    go : (b : Bool) → Tallied t (tally_of port arrivals outcomes t) (outcomes_at port arrivals outcomes) 0 →
        Tallied t (tally_of port arrivals outcomes (counted o t)) (o ∷ outcomes_at port arrivals outcomes) 0
        → Tallied t (tally_of port arrivals outcomes (if b then counted o t else t))
        (if b then o ∷ outcomes_at port arrivals outcomes else outcomes_at port arrivals outcomes) 0
    go true other same = same
    go false other same = other

abbrev report_with : ℕ → ℕ → ℕ → ℕ → PortReport
report_with received nobuf oversize sent = record { received = received; nobuf = nobuf; oversize = oversize; sent = sent; state = Open }

-- what is reported of a port that has sent that many
pub reported : (port : ℕ) (arrivals : List (Arrival Time)) (outcomes : List Outcome) (t : Tallies) (n : ℕ) →
    t ≡ record (tally_of port arrivals outcomes no_tallies) { sent = n }
    → port_report Open t ≡ port_numbers (outcomes_at port arrivals outcomes) n Open
reported port arrivals outcomes t n is =
    let to = tally_of port arrivals outcomes no_tallies in
    let c = tallied port arrivals outcomes no_tallies in
    let mine = outcomes_at port arrivals outcomes in
    ap (port_report Open) is
    ∙ ap (λ x. report_with x to.nobuf to.oversize n) (c.received ∙ zero-add (how_many is_got mine))
    ∙ ap (λ x. report_with (how_many is_got mine) x to.oversize n) (c.nobuf ∙ zero-add (how_many is_nobuf mine))
    ∙ ap (λ x. report_with (how_many is_got mine) (how_many is_nobuf mine) x n) (c.oversize ∙ zero-add (how_many is_oversize mine))

-- ---- indexes of a report

states_at : (states : List InputState) (ports : List PortReport) (q : ℕ) (s : InputState) (n : PortReport) → slice_get states q ≡ Some s →
    slice_get ports q ≡ Some n
    → slice_get (with_states states ports) q ≡ Some (record n { state = s })
states_at [] ports q s n e e' = cc
states_at (state ∷ states) [] q s n e e' = cc
states_at (state ∷ states) (p ∷ ports) zero s n e e' =
    ap (λ (x : PortReport). Some (record x { state = state })) (same_Some p n e') ∙ ap (λ (x : InputState). Some (record n { state = x })) (same_Some state s e)
states_at (state ∷ states) (p ∷ ports) (suc q) s n e e' = states_at states ports q s n e e'

states_many : (states : List InputState) (ports : List PortReport) → length (with_states states ports) ≡ length ports
states_many [] ports = refl
states_many (state ∷ states) [] = refl
states_many (state ∷ states) (p ∷ ports) = ap suc (states_many states ports)

tally_at : (n : ℕ) (tallies : List Tallies) (q : ℕ) → q < n → n ≤ length tallies → slice_get (map (port_report Open) (take n tallies)) q
    ≡ Some (port_report Open (tallies_at tallies q))
tally_at zero tallies q lt most = absurd (omega (arith, lt))
tally_at (suc n) [] q lt most = absurd (omega (arith, most))
tally_at (suc n) (t ∷ tallies) zero lt most = refl
tally_at (suc n) (t ∷ tallies) (suc q) lt most = tally_at n tallies q (omega (arith, lt)) (omega (arith, most))

state_at : (inputs : List Input) (q : ℕ) (i : Input) → slice_get inputs q ≡ Some i → slice_get (map (λ (j : Input). j.state) inputs) q ≡ Some i.state
state_at [] q i e = cc
state_at (x ∷ inputs) zero i e = ap (λ (j : Input). Some j.state) (same_Some x i e)
state_at (x ∷ inputs) (suc q) i e = state_at inputs q i e

-- what is left in rings, where nothing was before
pub left_only : (most : ℕ) (counts : List ℕ) → length counts ≤ most → take (length counts) (with_left (replicate most 0) counts) ≡ counts
left_only zero [] few = refl
left_only (suc most) [] few = refl
left_only zero (n ∷ counts) few = absurd (omega (arith, few))
left_only (suc most) (n ∷ counts) few = ap (λ m. m ∷ take (length counts) (with_left (replicate most 0) counts)) (zero-add n)
    ∙ ap (λ l. n ∷ l) (left_only most counts (omega (arith, few)))

-- ---- a report

-- what is known about an engine after a run: what it has counted of each port, and what is in its world
pub record IsCounted (p : Plan) (pattern : List ℕ) (arrivals : List (Arrival Time)) (run : PacketRun p pattern arrivals) (e : EngineState) (sent : ℕ →
    ℕ) : Type 0 where
  pub setting : e.setting ≡ setting_in p pattern
  pub tallies_many : length e.tallies ≡ 8
  pub tallies : (q : ℕ) → q < length p.env.ports → tallies_at e.tallies q ≡ record (tally_of q arrivals run.outcomes no_tallies) { sent = sent q }
  pub left : e.left ≡ replicate 8 0
  pub rings : e.world.rings ≡ run.last.rings
  pub rings_many : length run.last.rings ≡ length p.env.rings
  pub calls : e.world.calls ≡ run.last.calls
  pub cuts : e.world.cuts ≡ run.last.cuts

pub numbers_reported : {p : Plan} {pattern : List ℕ} {arrivals : List (Arrival Time)} {run : PacketRun p pattern arrivals} {e : EngineState}
    {progress : List InputProgress} (inputs : List Input) {sent : ℕ → ℕ} {r : Report}
    → length p.env.ports ≤ 8 → length p.env.rings ≤ 8 → length inputs ≡ length p.env.ports → map (λ (i : Input). i.state) inputs
    ≡ map (λ (x : InputProgress). x.state) progress
    → IsCounted p pattern arrivals run e sent → IsReportOf e progress r → HasRunNumbers p pattern arrivals run inputs sent r
numbers_reported {p = p} {pattern = pattern} {arrivals = arrivals} {run = run} {e = e} {progress = progress} inputs {sent = sent} {r = r} few_ports few_rings
    many states c is_report =
    let ports_same : length e.setting.env.ports ≡ length p.env.ports = ap (λ (s : Setting). length s.env.ports) c.setting in
    let rings_same : length e.setting.env.rings ≡ length p.env.rings = ap (λ (s : Setting). length s.env.rings) c.setting in
    let answers = map (port_report Open) (take (length e.setting.env.ports) e.tallies) in
    record {
      many = ap length is_report.ports ∙ states_many (map (λ (x : InputProgress). x.state) progress) answers
          ∙ length-map (take (length e.setting.env.ports) e.tallies) (port_report Open)
          ∙ length-take-le (length e.setting.env.ports) e.tallies (omega (arith, ports_same, few_ports, c.tallies_many)) ∙ ports_same;
      ports = λ q i at.
          let within : q < length p.env.ports = omega (arith, slice_get_within inputs q i at, many) in
          let here = tally_at (length e.setting.env.ports) e.tallies q (omega (arith, within, ports_same))
          (omega (arith, ports_same, few_ports, c.tallies_many)) in
          let numbers = reported q arrivals run.outcomes (tallies_at e.tallies q) (sent q) (c.tallies q within) in
          ap (λ l. slice_get l q) is_report.ports
          ∙ states_at (map (λ (x : InputProgress). x.state) progress) answers q i.state (port_report Open (tallies_at e.tallies q))
          (ap (λ l. slice_get l q) (sym states) ∙ state_at inputs q i at) here
          ∙ ap (λ (x : PortReport). Some (record x { state = i.state })) numbers;
      rings = (rw (c.left, c.rings) at is_report.rings)
          ∙ ap (λ m. take m (with_left (replicate 8 0) (left_in_rings run.last))) (rings_same ∙ sym c.rings_many ∙ sym (length-map run.last.rings length))
          ∙ left_only 8 (left_in_rings run.last) (omega (arith, length-map run.last.rings length, c.rings_many, few_rings));
      pools = rw c.setting at is_report.pools;
      calls = is_report.calls ∙ c.calls;
      refused = rw (c.setting, c.calls) at is_report.refused;
      cut = is_report.cut ∙ c.cuts;
    }

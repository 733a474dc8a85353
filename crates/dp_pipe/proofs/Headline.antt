-- What an open engine did is what a run promises.
use Rattle.std.proofs.Common.{◌≡◌, ℕ, inl, inr, List, length, map, Result, Ok, Err, ◌∙◌, ap, subst}
use Rattle.std.specs.Prelude.{IfOk, ⊤}
use Rattle.dp_pcap.specs.declared.time.Unit.{Unit as TimeUnit}
use Rattle.dp_engine.specs.Engines.{EngineState}
use Rattle.dp_engine.specs.declared.report.Report.{Report}
use Rattle.dp_model.specs.Machine.{Setting}
use Rattle.dp_pipe.specs.declared.forwarding.InputProgress.{InputProgress}
use Rattle.dp_pipe.specs.declared.forwarding.RunCause.{RunCause}
use Rattle.dp_pipe.specs.declared.running.RunFault.{RunFault}
use Rattle.dp_pipe.specs.Devices.{Transfer}
use Rattle.dp_pipe.specs.Forwarding.{Input, RanOnInputs, arrivals_of, capture_at, unit_for, units_of}
use Rattle.dp_pipe.specs.Headline.{PacketRun, HasRunNumbers, AreGiven, capture_text, Forwarded}
use Rattle.dp_load.specs.Pipelines.{Plan}
use Rattle.dp_pipe.specs.Running.{RunAnswers, RanOn, RoundsMade, IsFirst, GoesForward, IsReportOf}
use Rattle.dp_load.specs.Laws.{few}
use Rattle.dp_pipe.proofs.Numbers.{numbers_reported}
use Rattle.dp_pipe.proofs.PacketRuns.{IsReady, run_of, counted_run}
use Rattle.dp_pipe.proofs.Texts.{given_all}

-- as many ports as the pipeline has
pub ports_in : (p : Plan) (pattern : List ℕ) (first : EngineState) → IsFirst p pattern first → length first.setting.env.ports ≡ length p.env.ports
ports_in p pattern first is = ap (λ (s : Setting). length s.env.ports) is.setting

-- a run that went well: the run of packets, what was written of it, and its counts
pub record Done (p : Plan) (pattern : List ℕ) (t : Transfer) (inputs : List Input) (r : Report) : Type 0 where
  pub many : length inputs ≡ length p.env.ports
  pub run : PacketRun p pattern (arrivals_of inputs)
  pub wrote : AreGiven t.held t.holds (capture_text (unit_for (units_of inputs)) run.captures)
  pub numbers : HasRunNumbers p pattern (arrivals_of inputs) run inputs (λ port. length (capture_at run.captures port)) r

pub went_on : {p : Plan} {pattern : List ℕ} {first last : EngineState} {t : Transfer} {progress : List InputProgress} {answer : Result ⊤ RunCause}
    {inputs : List Input} {r : Report} → IsReady p pattern → IsFirst p pattern first → (made : RoundsMade first last t progress answer)
    → RanOnInputs made.unit first last made.mids t.holds inputs
    → map (λ (i : Input). i.state) inputs ≡ map (λ (x : InputProgress). x.state) progress → IsReportOf last progress r → Done p pattern t inputs r
went_on {p = p} {pattern = pattern} {first = first} {t = t} {inputs = inputs} ready is made went states reported =
    let (few_ports, few_rings, few_tables) = few p.env ready.limits in
    let ports = ports_in p pattern first is in
    let run = run_of ready is went.run in
    record {
      many = went.inputs_many ∙ ports;
      run = run;
      wrote = subst (λ (u : TimeUnit). AreGiven t.held t.holds (capture_text u went.captures)) went.unit_is
          (given_all made.unit went.captures t.held made.mids t.holds made.mids_many made.headers went.wrote);
      numbers = numbers_reported inputs few_ports few_rings (went.inputs_many ∙ ports) states
          (counted_run ready is went.run (went.many ∙ ports)) reported;
    }

-- all inputs were forwarded
forwarded : {p : Plan} {pattern : List ℕ} {t : Transfer} (answer : Result Report RunFault) → IsReady p pattern → RanOn p pattern t answer
    → IfOk answer (Forwarded p pattern t)
forwarded {p = p} {pattern = pattern} {t = t} (Ok r) ready ran = go ran.went
  where
    go : GoesForward ran.first ran.last t ran.progress (Ok tt) → Forwarded p pattern t r
    go (inl fails) = absurd fails
    go (inr made) =
        let (inputs, states, went, read, over) = made.rounds in
        let done = went_on ready ran.is_first made went states ran.reported in
        record {
          room = ran.is_first.room;
          inputs = inputs;
          many = done.many;
          read = read;
          ended = over;
          run = done.run;
          wrote = done.wrote;
          numbers = done.numbers;
        }
forwarded (Err fault) ready ran = tt

pub all_forwarded : {p : Plan} {pattern : List ℕ} {t : Transfer} (answer : Result Report RunFault) → IsReady p pattern → RunAnswers p pattern t answer
    → IfOk answer (Forwarded p pattern t)
all_forwarded answer ready (inl ran) = forwarded answer ready ran
all_forwarded (Ok r) ready (inr unopened) = absurd unopened
all_forwarded (Err fault) ready (inr unopened) = tt

-- What an open engine did before a fault is what a run that stopped promises.
use Rattle.std.proofs.Common.{◌≡◌, ℕ, ◌+◌, ◌<◌, inl, inr, List, length, map, Result, Ok, Err, refl, sym, ◌∙◌, subst, arith}
use Rattle.std.specs.Prelude.{⊤, IfErr, ◌↔◌}
use Rattle.std.proofs.lemmas.List.{length-map}
use Rattle.dp_pcap.specs.declared.time.Unit.{Unit as TimeUnit}
use Rattle.dp_model.specs.Runs.{records_at}
use Rattle.dp_engine.specs.declared.report.Report.{Report}
use Rattle.dp_engine.specs.Engines.{EngineState, IsAscending}
use Rattle.dp_engine.specs.Needs.{bytes_needed}
use Rattle.dp_pipe.specs.declared.forwarding.InputProgress.{InputProgress}
use Rattle.dp_pipe.specs.declared.forwarding.RunCause.{RunCause}
use Rattle.dp_pipe.specs.declared.forwarding.RunCause.TheVariants.{Memory, NoRoom, In, Out}
use Rattle.dp_pipe.specs.declared.running.RunFault.{RunFault}
use Rattle.dp_pipe.specs.Devices.{Transfer, IsGiven}
use Rattle.dp_pipe.specs.Forwarding.{Input, FailedAt, capture_at}
use Rattle.dp_pipe.specs.Headline.{StoppedWriting, StoppedBy, WroteFront, capture_text}
use Rattle.dp_load.specs.Pipelines.{Plan}
use Rattle.dp_pipe.specs.Running.{RunAnswers, RoundsMade, IsFirst, GoesForward, IsIdle, IsUnopened, IsReportOf, all_begun, begun, answer_of}
use Rattle.dp_pipe.proofs.Headline.{ports_in, went_on}
use Rattle.dp_pipe.proofs.Heading.{none_read}
use Rattle.dp_pipe.proofs.Idle.{idle_reported}
use Rattle.dp_pipe.proofs.LastTurn.{records_long, captures_long, earlier, through, goes_on_by, own_sent, counted_failed, given_ahead, given_own, given_after}
use Rattle.dp_load.specs.Laws.{few}
use Rattle.dp_pipe.proofs.Numbers.{numbers_reported}
use Rattle.dp_pipe.proofs.PacketRuns.{IsReady}
use Rattle.dp_pipe.proofs.Through.{not_before}

-- a writer failed after a turn
stopped_writing : {p : Plan} {pattern : List ℕ} {first last : EngineState} {t : Transfer} {progress : List InputProgress} {answer : Result ⊤ RunCause}
    {inputs : List Input} {port : ℕ} {r : Report} → IsReady p pattern → IsFirst p pattern first → length t.held ≡ length p.env.ports
    → (made : RoundsMade first last t progress answer) → FailedAt made.unit first last (record t { held = made.mids }) inputs port
    → map (λ (i : Input). i.state) inputs ≡ map (λ (x : InputProgress). x.state) progress → IsReportOf last progress r → StoppedWriting p pattern t port r
stopped_writing {p = p} {pattern = pattern} {first = first} {t = t} {inputs = inputs} {port = port} ready is many made f states reported =
    let (few_ports, few_rings, few_tables) = few p.env ready.limits in
    let ports = ports_in p pattern first is in
    let run = through ready is f few_ports in
    let long : length f.captures ≡ length t.held = captures_long ready is f few_ports ∙ sym many in
    let new_long : length (records_at f.last.time f.beyond.world) ≡ length t.held = records_long ready is f few_ports ∙ sym many in
    record {
      room = is.room;
      inputs = inputs;
      many = f.inputs_many ∙ ports;
      read = f.read;
      before = f.before;
      last = f.last;
      earlier = earlier ready is f few_ports;
      run = run;
      arrivals_are = f.arrivals_are;
      round = f.round;
      order = f.order;
      goes_on = goes_on_by ready is f few_ports;
      there = omega (arith, f.stopped.there, there);
      ahead = λ q less old new here at. subst (λ (u : TimeUnit). IsGiven old new (capture_text u run.captures q)) f.unit_is
          (given_ahead f t.held made.mids_many made.headers long new_long q old new less here at);
      sent = own_sent ready is f few_ports;
      not_less = omega arith;
      own = λ old new here at. subst (λ (u : TimeUnit). WroteFront u (capture_at run.captures port)
          (length (capture_at f.captures port) + f.stopped.whole) old new) f.unit_is
          (given_own f t.held made.mids_many made.headers long new_long old new here at);
      after = λ q less old new here at. subst (λ (u : TimeUnit). IsGiven old new (capture_text u f.captures q)) f.unit_is
          (given_after f t.held made.mids_many made.headers long new_long q old new less here at);
      numbers = numbers_reported inputs few_ports few_rings (f.inputs_many ∙ ports) states
          (counted_failed ready is f few_ports) reported;
    }
  where
    there : length f.beyond.setting.env.ports ≡ length p.env.ports
    there = rw (f.turn.is, f.run.stays) (ports_in p pattern first is)

-- no engine was opened
unopened_so : (p : Plan) (pattern : List ℕ) (t : Transfer) (cause : RunCause) (r : Report) → IsUnopened p cause → IsIdle p.env r
    → StoppedBy p pattern t cause r
unopened_so p pattern t Memory r why idle = idle
unopened_so p pattern t NoRoom r why idle = (why, idle)
unopened_so p pattern t (In port error) r why idle = absurd why
unopened_so p pattern t (Out port) r why idle = absurd why

module _ {p : Plan} {pattern : List ℕ} (ready : IsReady p pattern) (ascends : IsAscending 0 pattern) {t : Transfer}
    (many : length t.held ≡ length p.env.ports) where
  stopped_by : (first last : EngineState) (progress : List InputProgress) (cause : RunCause) (r : Report) → IsFirst p pattern first
      → GoesForward first last t progress (Err cause) → IsReportOf last progress r → StoppedBy p pattern t cause r
  stopped_by first last progress Memory r is (inl fails) reported = absurd fails
  stopped_by first last progress Memory r is (inr made) reported = absurd made.rounds
  stopped_by first last progress NoRoom r is (inl fails) reported = absurd fails
  stopped_by first last progress NoRoom r is (inr made) reported = absurd made.rounds
  stopped_by first last progress (In port error) r is (inl (fault, kept, begun, same)) reported =
      let (few_ports, few_rings, few_tables) = few p.env ready.limits in
      inl (record {
        room = is.room;
        fault = fault;
        kept = kept;
        idle = idle_reported is ascends few_ports few_rings begun (rw same at reported);
      })
  stopped_by first last progress (In port error) r is (inr made) reported =
      let (inputs, states, went, fault) = made.rounds in
      let done = went_on ready is made went states reported in
      inr (record {
        room = is.room;
        inputs = inputs;
        many = done.many;
        fault = fault;
        run = done.run;
        wrote = done.wrote;
        numbers = done.numbers;
      })
  stopped_by first last progress (Out port) r is (inl (begun_many, read, stopped, begun_all, same)) reported =
      let (few_ports, few_rings, few_tables) = few p.env ready.limits in
      inl (record {
        room = is.room;
        inputs = all_begun progress;
        many = length-map progress begun ∙ begun_many ∙ ports_in p pattern first is;
        read = read;
        none = none_read progress begun_all;
        stopped = stopped;
        idle = idle_reported is ascends few_ports few_rings begun_all (rw same at reported);
      })
  stopped_by first last progress (Out port) r is (inr made) reported =
      let (inputs, states, failed) = made.rounds in
      inr (stopped_writing ready is many made failed states reported)

  pub all_stopped : (answer : Result Report RunFault) → RunAnswers p pattern t answer
      → IfErr answer (λ (f : RunFault). StoppedBy p pattern t f.cause f.report)
  all_stopped (Ok r) ran = tt
  all_stopped (Err fault) (inl ran) = stopped_by ran.first ran.last ran.progress fault.cause fault.report ran.is_first ran.went ran.reported
  all_stopped (Err fault) (inr (why, idle)) = unopened_so p pattern t fault.cause fault.report why idle

-- ---- memory and room

no_room_by : (p : Plan) (cause : RunCause) → IsUnopened p cause → (◌≡◌ {A = Result ⊤ RunCause} (Err cause) (Err NoRoom)) ↔ (p.region < bytes_needed p.env)
no_room_by p Memory room = (λ e. cc, λ less. absurd (omega (arith, room, less)))
no_room_by p NoRoom why = (λ e. why, λ less. refl)
no_room_by p (In port error) why = absurd why
no_room_by p (Out port) why = absurd why

-- there is no room exactly where the region is smaller than the engine needs
pub no_room_so : {p : Plan} {pattern : List ℕ} {t : Transfer} (answer : Result Report RunFault) → RunAnswers p pattern t answer
    → (answer_of answer ≡ Err NoRoom) ↔ (p.region < bytes_needed p.env)
no_room_so {t = t} answer (inl ran) = (
  λ e. absurd (not_before ran.first ran.last t ran.progress NoRoom (subst (GoesForward ran.first ran.last t ran.progress) e ran.went) (inr refl)),
  λ less. absurd (omega (arith, less, ran.is_first.room)),
)
no_room_so (Ok r) (inr unopened) = absurd unopened
no_room_so {p = p} (Err fault) (inr (why, idle)) = no_room_by p fault.cause why

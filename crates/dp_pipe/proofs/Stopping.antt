-- A run stops at one input's answer, or at a writer after it.
use Rattle.std.proofs.Common.{◌≡◌, ℕ, zero, suc, ◌+◌, ◌<◌, ◌≤◌, List, [], ◌∷◌, length, map, take, Some, Result}
use Rattle.std.proofs.Common.{Ok, Err, refl, sym, ◌∙◌, ap, arith}
use Rattle.std.specs.Prelude.{slice_get, slice_set, ⊤}
use Rattle.std.proofs.lemmas.List.{length-append, length-set}
use Rattle.std.proofs.lemmas.Option.{same_Some}
use Rattle.dp_pcap.specs.declared.time.Time.{Time}
use Rattle.dp_pcap.specs.declared.time.Unit.{Unit as TimeUnit}
use Rattle.dp_pcap.specs.declared.error.PcapError.{PcapError}
use Rattle.dp_pcap.specs.declared.source.Next.{Next}
use Rattle.dp_pcap.specs.declared.source.Next.TheVariants.{Record, End}
use Rattle.dp_pcap.specs.declared.source.Next.TheVariants as next
use Rattle.dp_pcap.specs.Capture.{PacketRecord}
use Rattle.dp_pcap.specs.Source.{WhereKnown, Continues, IsInRange, Moves, advanced}
use Rattle.dp_model.specs.Laws.Lists.{set_itself}
use Rattle.dp_engine.specs.declared.report.InputState.{InputState}
use Rattle.dp_engine.specs.declared.report.InputState.TheVariants.{Open}
use Rattle.dp_engine.specs.Engines.{EngineState}
use Rattle.dp_pipe.specs.declared.forwarding.InputProgress.{InputProgress}
use Rattle.dp_pipe.specs.Devices.{Device, Transfer}
use Rattle.dp_pipe.specs.declared.forwarding.RunCause.{RunCause}
use Rattle.dp_pipe.specs.declared.forwarding.RunCause.TheVariants.{In, Out}
use Rattle.dp_pipe.specs.Forwarding.{Input, AreProgressOf, ReadsTurn, Follows, Advances, RunUntil, StopsRun}
use Rattle.dp_pipe.specs.Forwarding.{HasTurn, HasPulled, RanOnInputs, DrainsStopped, arrivals_of, unit_for}
use Rattle.dp_pipe.proofs.RunOn.{arrival}
use Rattle.dp_pipe.proofs.Advancing.{with_record, arrivals_more, order_next}
use Rattle.dp_pipe.proofs.GoingOn.{after_asking, wanted}
use Rattle.dp_pipe.proofs.Units.{units_set}
use Rattle.dp_pipe.proofs.Stepping.{input_at}
use Rattle.dp_pipe.proofs.Reading.{are_read, fault_read, more_read, others_read}

-- ---- states

abbrev state_of : Input → InputState
state_of i = i.state

abbrev state_at : InputProgress → InputState
state_at p = p.state

states_each : (progress : List InputProgress) (inputs : List Input) → length progress ≡ length inputs →
    ((q : ℕ) (p : InputProgress) (i : Input) → slice_get progress q ≡ Some p → slice_get inputs q ≡ Some i → p.state ≡ i.state) →
    map state_of inputs ≡ map state_at progress
states_each [] [] many each = refl
states_each [] (i ∷ inputs) many each = absurd (omega (arith, many))
states_each (p ∷ progress) [] many each = absurd (omega (arith, many))
states_each (p ∷ progress) (i ∷ inputs) many each =
    ap (λ x. x ∷ map state_of inputs) (sym (each 0 p i refl refl)) ∙ ap
    (λ l. p.state ∷ l) (states_each progress inputs (omega (arith, many)) (λ q a b c d. each (suc q) a b c d))

pub states_same : {olds news : List Device} {progress : List InputProgress} {inputs : List Input} → AreProgressOf olds news progress inputs →
    map state_of inputs ≡ map state_at progress
states_same {progress = progress} {inputs = inputs} progress_is = states_each progress inputs progress_is.many (λ q p i a b. (progress_is.each q p i a b).state)

states_set : (progress : List InputProgress) (n : ℕ) (p : InputProgress) → map state_at (slice_set progress n p) ≡ slice_set (map state_at progress) n p.state
states_set [] n p = refl
states_set (x ∷ progress) zero p = refl
states_set (x ∷ progress) (suc n) p = ap (λ l. x.state ∷ l) (states_set progress n p)

states_get : (progress : List InputProgress) (n : ℕ) (p : InputProgress) → slice_get progress n ≡ Some p → slice_get (map state_at progress) n ≡ Some p.state
states_get [] n p e = cc
states_get (x ∷ progress) zero p e = ap (λ y. Some (state_at y)) (same_Some x p e)
states_get (x ∷ progress) (suc n) p e = states_get progress n p e

-- a run was on what was read until now
pub ran_on : {unit : TimeUnit} {e0 e : EngineState} {t : Transfer} {progress : List InputProgress} {inputs : List Input} {round port : ℕ}
    → RunUntil unit e0 e t progress inputs round port → RanOnInputs unit e0 e t.held t.holds inputs
ran_on along =
    record { inputs_many = along.inputs_many; unit_is = along.unit_is; captures = along.captures; many = along.many; run = along.run; wrote = along.wrote }

-- an open input, whose source answers, in a run that continues
module _ {unit : TimeUnit} {e0 e : EngineState} {t : Transfer} {progress : List InputProgress} {inputs : List Input} {round port : ℕ}
    (along : RunUntil unit e0 e t progress inputs round port) (holds_many : length t.holds ≡ length e0.setting.env.ports) {p : InputProgress}
    (p' : InputProgress) (here : slice_get progress port ≡ Some p) (open_p : p.state ≡ Open) {a : Device} (b : Device)
    (left_a : slice_get t.left port ≡ Some a) where
  -- a writer failed after its record
  failed_after : (holds : List Device) (time : Time) (len : ℕ) (buf : List ℕ) (e1 e2 : EngineState) (q : ℕ)
      → len ≤ length buf → b.calls ≤ a.calls + (16 + len)
      → WhereKnown a.bytes b.bytes (λ left rest. Continues p.source p'.source left rest buf (Ok (Record time len)))
      → p.source.given < 16777216 → p'.source ≡ advanced p.source len → HasTurn port e e1 (take len buf) → p'.state ≡ Open
      → DrainsStopped unit time e1 e2 t.holds holds q → StopsRun unit e0 e2 (after_asking t port b holds) (slice_set progress port p') (Out q)
  failed_after holds time len buf e1 e2 q fits pulls more less moves turn is stops =
      let (i, i_here, i_progress) = input_at port along.progress_is here in
      let i_open = sym i_progress.state ∙ open_p in
      let r : PacketRecord = record { time = time; bytes = take len buf } in
      let i' = with_record r i in
      let progress_is = more_read port along.progress_is p' here i_here open_p b left_a time len buf fits pulls more less moves is in (
        slice_set inputs port i',
        states_same progress_is,
        record {
          inputs_many = length-set inputs port i' ∙ along.inputs_many;
          unit_is = along.unit_is ∙ ap unit_for (sym (units_set inputs port i i' i_here refl));
          read = are_read progress_is;
          before = arrivals_of inputs;
          last = arrival port time (take len buf);
          arrivals_are = arrivals_more inputs round port i r along.order i_here i_open;
          round = round;
          order = order_next inputs round port i' along.order (rw i_open (length-append i.records (r ∷ [])
              ∙ ap (λ m. m + 1) (wanted round port (length i.records) i.state i_open (along.order port i i_here))));
          engine = e;
          captures = along.captures;
          many = along.many;
          run = along.run;
          mids = t.holds;
          mids_many = holds_many ∙ sym along.held_many;
          wrote = along.wrote;
          beyond = e1;
          turn = turn;
          stopped = stops;
        },
      )

  states : p'.state ≡ Open → map state_of inputs ≡ map state_at (slice_set progress port p')
  states is = states_same along.progress_is
      ∙ sym (states_set progress port p' ∙ ap (slice_set (map state_at progress) port) (is ∙ sym open_p)
      ∙ set_itself (map state_at progress) port p.state (states_get progress port p here))

  -- the input is at fault
  refused_here : (error : PcapError) (buf : List ℕ) → HasPulled (Err error) a b
      → WhereKnown a.bytes b.bytes (λ left rest. Continues p.source p'.source left rest buf (Err error)) → p'.state ≡ Open
      → StopsRun unit e0 e (after_asking t port b t.holds) (slice_set progress port p') (In port error)
  refused_here error buf pulls more is =
      let (i, i_here, i_progress) = input_at port along.progress_is here in (
        inputs,
        states is,
        ran_on along,
        record {
          round = round;
          order = along.order;
          input = i;
          input_is = i_here;
          is_open = sym i_progress.state ∙ open_p;
          fault = fault_read port along.progress_is p' here i_here open_p b left_a error buf pulls more;
          others = others_read port along.progress_is p' here i_here open_p b left_a;
        },
      )

  pub stops_at : {e' : EngineState} {holds : List Device} (cause : RunCause) → Advances port unit e e' p p' a b t.holds holds (Err cause)
      → StopsRun unit e0 e' (after_asking t port b holds) (slice_set progress port p') cause
  stops_at {e' = e'} {holds = holds} cause step = go step.next step.read step.pulls step.in_range step.moves step.follows
    where
      same_err : (x y : RunCause) → ◌≡◌ {A = Result ⊤ RunCause} (Err x) (Err y) → x ≡ y
      same_err x y e = cc

      go : (answer : Result Next PcapError) → ReadsTurn port e step.engine p.source p'.source a.bytes b.bytes answer → HasPulled answer a b
          → IsInRange p.source answer → Moves p.source p'.source answer → Follows port unit step.engine e' p'.state t.holds holds answer (Err cause)
          → StopsRun unit e0 e' (after_asking t port b holds) (slice_set progress port p') cause
      go (Ok (Record time len)) (buf, more, (fits, turn)) (pulls, last) (nano, few, less) moves (is, q, cause_is, stops) =
          rw cause_is (failed_after holds time len buf step.engine e' q fits pulls more less moves turn is stops)
      go (Ok End) reads pulls range moves (is, bad, e_is, holds_is) = cc
      go (Ok (next.Cut byte)) reads pulls range moves (is, bad, e_is, holds_is) = cc
      go (Err error) (buf, more, same) pulls range moves (is, answer_is, e_is, holds_is) =
          rw (same_err cause (In port error) answer_is, e_is ∙ same, holds_is) (refused_here error buf pulls more is)

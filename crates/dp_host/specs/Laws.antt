-- Laws of bursts.
use Rattle.std.specs.Prelude.{◌≡◌, ℕ, nat_lt, Bool, true, false, List, [], ◌∷◌, map, Some, None}
use Rattle.std.proofs.Common.{inl, inr, refl, sym, ap, subst, ◌∙◌}
use Rattle.std.proofs.lemmas.Option.{same_Some}
use Rattle.dp_model.specs.Runs.{Arrival}
use Rattle.dp_engine.specs.declared.engine.Outcome.{Outcome}
use Rattle.dp_engine.specs.declared.engine.Outcome.TheVariants.{Got, NoBuffer, Oversize}
use Rattle.dp_engine.specs.Engines.{EngineState}
use Rattle.dp_engine.specs.Outcomes.{outcome_of}
use Rattle.dp_load.specs.Pipelines.{Plan}
use Rattle.dp_host.specs.declared.numbers.BurstFrame.{BurstFrame}
use Rattle.dp_host.specs.declared.numbers.Room.{Room}
use Rattle.dp_host.specs.declared.refusal.Refusal.{Refusal}
use Rattle.dp_host.specs.declared.refusal.Refusal.TheVariants as refusal
use Rattle.dp_host.specs.Calls.{Call, Event, Passed, HasServedCalls, arrival_of}
use Rattle.dp_host.specs.Hosts.{Arrays, outcome_number, refusal_number}
use Rattle.dp_host.specs.Bursts.{Bursts, beyond, joined}

-- ---- what a burst serves

-- a list with one more at its front, or without it
abbrev pub with_front : {X : Type 0} → Bool → X → List X → List X
with_front true x xs = x ∷ xs
with_front false x xs = xs

-- a frame of a burst, as it arrives at its port
abbrev pub arrives : ℕ → BurstFrame → Arrival ℕ
arrives port f = record { port = port; time = f.time; bytes = f.bytes.now }

-- the frames of a burst whose answers are outcomes, and no refusals
abbrev pub arrivals_of : ℕ → List BurstFrame → List BurstFrame → List (Arrival ℕ)
arrivals_of port [] frames' = []
arrivals_of port (f ∷ frames) [] = []
arrivals_of port (f ∷ frames) (f' ∷ frames') = with_front (nat_lt f'.answer 16) (arrives port f) (arrivals_of port frames frames')

-- calls after these events, the latest first
abbrev pub then_passed : List Call → List Event → List Event
then_passed [] events = events
then_passed (c ∷ calls) events = then_passed calls (Passed c ∷ events)

-- after a burst, the engine has served a pass more for each frame that was not refused, in order
pub record ServesMore (p : Plan) (events : List Event) (port : ℕ) (frames frames' : List BurstFrame) (new : EngineState) : Type 0 where
  pub calls : List Call
  pub are : map arrival_of calls ≡ arrivals_of port frames frames'
  pub served : HasServedCalls p (then_passed calls events) new

outcomes_low : (o : Outcome) → nat_lt (outcome_number o) 16 ≡ true
outcomes_low Got = refl
outcomes_low NoBuffer = refl
outcomes_low Oversize = refl

refusals_high : (why : Refusal) → nat_lt (refusal_number why) 16 ≡ false
refusals_high refusal.NotOpen = refl
refusals_high refusal.Closed = refl
refusals_high refusal.NoPort = refl
refusals_high refusal.NoPool = refl
refusals_high refusal.NoRing = refl
refusals_high refusal.TooLong = refl
refusals_high refusal.NoTurns = refl
refusals_high refusal.BatchTooSmall = refl
refusals_high refusal.NoTable = refl
refusals_high refusal.BadDepth = refl
refusals_high refusal.BadHop = refl
refusals_high refusal.RulesFull = refl
refusals_high refusal.GroupsFull = refl
refusals_high refusal.NoRule = refl
refusals_high refusal.NoRoute = refl
refusals_high refusal.NoProgram = refl
refusals_high refusal.NoMemory = refl

-- What an engine has served after a burst: what it had served before, and the passes of the frames that were not refused, in their order.
pub bursts_serve : (old : EngineState) (missing : Refusal) (new : EngineState) (port : ℕ) (frames frames' : List BurstFrame) (before : Room)
    (had has : Arrays) (filled : Room) → Bursts (Some old) missing (Some new) port frames frames' before had has filled
    → (p : Plan) (events : List Event) → HasServedCalls p events old → ServesMore p events port frames frames' new
bursts_serve old missing new port [] [] before had has filled (same, _, _) p events was =
    record { calls = []; are = refl; served = subst (λ e. HasServedCalls p events e) (sym (same_Some _ _ same)) was }
bursts_serve old missing new port [] (f' ∷ frames') before had has filled never p events was = absurd never
bursts_serve old missing new port (f ∷ frames) [] before had has filled never p events was = absurd never
bursts_serve old missing new port (f ∷ frames) (f' ∷ frames') before had has filled (None, part, passed, rest) p events was = absurd passed.pass
bursts_serve old missing new port (f ∷ frames) (f' ∷ frames') before had has filled (Some mid, part, passed, rest) p events was =
    elim passed.pass [
      | inl taken ↦
          let c : Call = record {
            port = port;
            time = f.time;
            bytes = f.bytes.now;
            outcome = outcome_of taken.turn.outcome;
            answers = taken.answers;
            sent = taken.sent;
          } in
          let more = bursts_serve mid missing new port frames frames' (joined before part) (beyond part had) (beyond part has) filled rest p
          (Passed c ∷ events) (taken.serves p events was) in
          let low : nat_lt f'.answer 16 ≡ true = ap (λ n. nat_lt n 16) taken.number ∙ outcomes_low taken.turn.outcome in
          record {
            calls = c ∷ more.calls;
            are = ap (λ l. arrives port f ∷ l) more.are ∙ sym (ap (λ b. with_front b (arrives port f) (arrivals_of port frames frames')) low);
            served = more.served;
          }
      | inr (why, number, refused, same, same_arrays, empty) ↦
          let more = bursts_serve mid missing new port frames frames' (joined before part) (beyond part had) (beyond part has) filled rest p events
          (subst (λ e. HasServedCalls p events e) (sym same) was) in
          let high : nat_lt f'.answer 16 ≡ false = ap (λ n. nat_lt n 16) number ∙ refusals_high why in
          record {
            calls = more.calls;
            are = more.are ∙ sym (ap (λ b. with_front b (arrives port f) (arrivals_of port frames frames')) high);
            served = more.served;
          }
    ]

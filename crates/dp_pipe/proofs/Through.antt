-- Where all rounds of a run begin, and what an engine keeps after them.
use Rattle.std.proofs.Common.{◌≡◌, ◌⊎◌, inl, inr, ℕ, zero, suc, ◌+◌, List, [], ◌∷◌, ◌++◌, Some, Result, Ok, Err, length, map, take}
use Rattle.std.proofs.Common.{replicate, refl, ap, sym, ◌∙◌, subst, arith, zero-add}
use Rattle.std.specs.Prelude.{slice_get, ⊤}
use Rattle.std.specs.List.{AllByRecursion}
use Rattle.std.proofs.lemmas.Option.{same_Some}
use Rattle.std.proofs.lemmas.List.{length-replicate, length-map, length-set}
use Rattle.dp_pcap.specs.declared.time.Time.{Time}
use Rattle.dp_pcap.specs.declared.time.Unit.{Unit as TimeUnit}
use Rattle.dp_model.specs.Runs.{Arrival, longest}
use Rattle.dp_engine.specs.Engines.{EngineState, tallies_at}
use Rattle.dp_engine.specs.declared.report.Tallies.{Tallies}
use Rattle.std.proofs.lemmas.Bool.{le-ltb}
use Rattle.dp_model.specs.Laws.Lists.{each_at}
use Rattle.dp_pipe.specs.declared.forwarding.InputProgress.{InputProgress}
use Rattle.dp_pipe.specs.Devices.{Device, Transfer, transfer}
use Rattle.dp_pipe.specs.declared.forwarding.RunCause.{RunCause}
use Rattle.dp_pipe.specs.declared.forwarding.RunCause.TheVariants.{Memory, NoRoom, In, Out}
use Rattle.dp_pipe.specs.Forwarding.{Input, AreProgressOf, asked, RunUntil, HasRun, AreRounds, FailedAt, arrivals_of}
use Rattle.dp_pipe.specs.Forwarding.{timed_records, records_many, capture_at, tally_of, AreRead, unit_for, units_of}
use Rattle.dp_pipe.specs.Running.{all_begun, begun, IsBegun, GoesForward, HeadersFail, IsHeaderCause, IsWriteCause}
use Rattle.dp_pipe.proofs.Giving.{given_nothing}
use Rattle.dp_pipe.proofs.Heading.{answers_at}

-- ---- before the first round

longest_none : (inputs : List InputProgress) → longest (map timed_records (all_begun inputs)) ≡ 0
longest_none [] = refl
longest_none (p ∷ inputs) = rw (longest_none inputs) refl

many_none : (inputs : List InputProgress) → records_many (all_begun inputs) ≡ 0
many_none [] = refl
many_none (p ∷ inputs) = zero-add (records_many (all_begun inputs)) ∙ many_none inputs

pub no_arrivals : (inputs : List InputProgress) → arrivals_of (all_begun inputs) ≡ []
no_arrivals inputs = rw (longest_none inputs) refl

nothing_at : {A : Type 0} (n q : ℕ) (xs : List A) → slice_get (replicate n []) q ≡ Some xs → xs ≡ []
nothing_at zero zero xs e = cc
nothing_at zero (suc q) xs e = cc
nothing_at (suc n) zero xs e = same_Some _ _ (sym e)
nothing_at (suc n) (suc q) xs e = nothing_at n q xs e

no_capture : (n q : ℕ) → capture_at (replicate n []) q ≡ []
no_capture zero zero = refl
no_capture zero (suc q) = refl
no_capture (suc n) zero = refl
no_capture (suc n) (suc q) = no_capture n q

run_none : (e : EngineState) → HasRun e e [] (replicate (length e.setting.env.ports) [])
run_none e = record {
  answers = [];
  outcomes = [];
  run = (refl, refl);
  turns = omega arith;
  each = refl;
  tallies = tallied;
  stays = refl;
}
  where
    tallied : (port : ℕ) (sent : List (Time × List ℕ)) → slice_get (replicate (length e.setting.env.ports) []) port ≡ Some sent
        → tallies_at e.tallies port ≡ record (tally_of port [] [] (tallies_at e.tallies port)) { sent = (tallies_at e.tallies port).sent + length sent }
    tallied port sent at =
        let t : Tallies = tallies_at e.tallies port in
        let long : length sent ≡ 0 = ap length (nothing_at (length e.setting.env.ports) port sent at) in
        let same : t.sent ≡ t.sent + length sent = omega (arith, long) in
        ap (λ n. record t { sent = n }) same

pub asked_none : (q : ℕ) → asked 0 0 q ≡ 0
asked_none q = rw (le-ltb q 0 (omega arith)) refl

pub along_none : (unit : TimeUnit) (e : EngineState) (olds news mids : List Device) (progress : List InputProgress)
    → e.turns ≡ 0 → length mids ≡ length e.setting.env.ports → length progress ≡ length e.setting.env.ports →
    unit ≡ unit_for (units_of (all_begun progress)) → AreProgressOf olds news progress (all_begun progress) → AllByRecursion IsBegun progress
    → RunUntil unit e e (transfer olds news mids mids) progress (all_begun progress) 0 0
along_none unit e olds news mids progress first many inputs_many unit_is progress_is begins = record {
  first = first;
  held_many = many;
  inputs_many = length-map progress begun ∙ inputs_many;
  unit_is = unit_is;
  progress_is = progress_is;
  order = λ q i at. let (p, there, is) = answers_at begun progress q i at in
      let is_open = (each_at IsBegun progress q p begins there).state in
      rw (is, is_open) (sym (asked_none q));
  total = rw (no_arrivals progress) (sym (many_none progress));
  captures = replicate (length e.setting.env.ports) [];
  many = length-replicate (length e.setting.env.ports) [];
  run = subst (λ arrivals. HasRun e e arrivals (replicate (length e.setting.env.ports) [])) (sym (no_arrivals progress)) (run_none e);
  wrote = λ port old new here there. rw (no_capture (length e.setting.env.ports) port, same_Some new old (sym there ∙ here)) (given_nothing old);
}

-- a list after it is written back
pub back : {A : Type 0} (n : ℕ) (new old : List A) → n ≡ length new → take n (new ++ old) ≡ new
back {A = A} n new old e = rw e (front new)
  where
    front : (xs : List A) → take (length xs) (xs ++ old) ≡ xs
    front [] = refl
    front (x ∷ xs) = ap (λ ys. x ∷ ys) (front xs)

-- ---- headers that fail

pub fail_read : (e : EngineState) (olds news held : List Device) (progress : List InputProgress) (cause : RunCause) → AllByRecursion IsBegun progress
    → IsHeaderCause olds news cause → HeadersFail e e (transfer olds news held held) progress (Err cause)
fail_read e olds news held progress Memory begins is = absurd is
fail_read e olds news held progress NoRoom begins is = absurd is
fail_read e olds news held progress (Out port) begins is = absurd is
fail_read e olds news held progress (In port error) begins is = (is, refl, begins, refl)

pub fail_write : (e : EngineState) (t : Transfer) (progress : List InputProgress) (cause : RunCause) →
    length progress ≡ length e.setting.env.ports → AreRead t.had t.left (all_begun progress) → AllByRecursion IsBegun progress
    → IsWriteCause (unit_for (units_of (all_begun progress))) t.held t.holds cause → HeadersFail e e t progress (Err cause)
fail_write e t progress Memory many read begins is = absurd is
fail_write e t progress NoRoom many read begins is = absurd is
fail_write e t progress (In port error) many read begins is = absurd is
fail_write e t progress (Out port) many read begins is = (many, read, is, begins, refl)

-- ---- after the last

-- an engine keeps its setting, and counts as many ports
pub record Stays (e e' : EngineState) : Type 0 where
  pub setting : e'.setting ≡ e.setting
  pub each : length e'.tallies ≡ length e.tallies

stays_run : (e e' : EngineState) (arrivals : List (Arrival Time)) (captures : List (List (Time × List ℕ))) → HasRun e e' arrivals captures → Stays e e'
stays_run e e' arrivals captures run = record { setting = ap (λ (x : EngineState). x.setting) run.stays; each = run.each }

pub stays_failed : {unit : TimeUnit} {e e' : EngineState} {t : Transfer} {inputs : List Input} {port : ℕ} → FailedAt unit e e' t inputs port → Stays e e'
stays_failed {e = e} {port = port} f =
    let ran = stays_run e f.engine f.before f.captures f.run in
    let turn = f.turn.is in
    let first = f.stopped.first in
    let last = f.stopped.is in
    record {
      setting = rw (last, first.is, turn) ran.setting;
      each = ap (λ (x : EngineState). length x.tallies) last ∙ length-set f.stopped.engine.tallies port _ ∙ first.each
          ∙ ap (λ (x : EngineState). length x.tallies) turn ∙ length-set f.engine.tallies f.last.port _ ∙ ran.each;
    }

pub stays_rounds : (unit : TimeUnit) (e e' : EngineState) (t : Transfer) (progress : List InputProgress) (answer : Result ⊤ RunCause)
    → AreRounds unit e e' t progress answer → Stays e e'
stays_rounds unit e e' t progress (Ok done) (inputs, states, went, read, over) = stays_run e e' _ _ went.run
stays_rounds unit e e' t progress (Err (In port error)) (inputs, states, went, fault) = stays_run e e' _ _ went.run
stays_rounds unit e e' t progress (Err (Out port)) (inputs, states, failed) = stays_failed failed
stays_rounds unit e e' t progress (Err Memory) stops = absurd stops
stays_rounds unit e e' t progress (Err NoRoom) stops = absurd stops

-- the run of an open engine stops neither for memory nor for room
pub not_before : (e e' : EngineState) (t : Transfer) (progress : List InputProgress) (cause : RunCause)
    → GoesForward e e' t progress (Err cause) → (cause ≡ Memory) ⊎ (cause ≡ NoRoom) → ⊥
not_before e e' t progress Memory (inl fails) why = absurd fails
not_before e e' t progress Memory (inr made) why = absurd made.rounds
not_before e e' t progress NoRoom (inl fails) why = absurd fails
not_before e e' t progress NoRoom (inr made) why = absurd made.rounds
not_before e e' t progress (In port error) went (inl why) = cc
not_before e e' t progress (In port error) went (inr why) = cc
not_before e e' t progress (Out port) went (inl why) = cc
not_before e e' t progress (Out port) went (inr why) = cc

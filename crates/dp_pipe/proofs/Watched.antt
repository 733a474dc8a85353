-- What a watcher is shown of a run, turn by turn: the same as a tracer to which nothing is reported between turns.
use Rattle.std.proofs.Common.{zero, suc, ◌≡◌, ℕ, ◌+◌, ◌<◌, ◌≤◌, List, length, map, None, Some, Result, Ok, Err, refl, sym, ◌∙◌, ap, subst, arith, ◌⊎◌, inl, inr}
use Rattle.std.specs.Prelude.{slice_get, slice_set, ⊤}
use Rattle.std.specs.List.{AllByRecursion}
use Rattle.std.proofs.lemmas.Option.{slice_get_within}
use Rattle.dp_model.specs.Laws.Lists.{get_within}
use Rattle.dp_pcap.specs.declared.time.Time.{Time}
use Rattle.dp_pcap.specs.declared.time.Unit.{Unit as TimeUnit}
use Rattle.dp_pcap.specs.declared.error.PcapError.{PcapError}
use Rattle.dp_pcap.specs.declared.source.Next.{Next}
use Rattle.dp_pcap.specs.declared.source.Next.TheVariants.{Record, End}
use Rattle.dp_pcap.specs.declared.source.Next.TheVariants as next
use Rattle.dp_model.specs.Packets.{Packet}
use Rattle.dp_model.specs.Machine.{World}
use Rattle.dp_model.specs.Runs.{with_empty_outboxes}
use Rattle.dp_engine.specs.declared.report.InputState.TheVariants.{Open}
use Rattle.dp_engine.specs.Engines.{EngineState, drained}
use Rattle.dp_engine.specs.Watching.{Event}
use Rattle.dp_pipe.specs.declared.forwarding.InputProgress.{InputProgress}
use Rattle.dp_pipe.specs.declared.forwarding.RunCause.{RunCause}
use Rattle.dp_pipe.specs.declared.forwarding.RunCause.TheVariants.{Memory, NoRoom, In, Out}
use Rattle.dp_pipe.specs.Devices.{Device}
use Rattle.dp_pipe.specs.Forwarding.{AreProgressOf, DrainedAll, DrainsStopped, Follows, NoneIsOpen, OnlyIsOpen, TurnsOn, arrivals_of, first_emptied}
use Rattle.dp_pipe.specs.Running.{IsBegun, IsHeaderCause, IsWriteCause, all_begun}
use Rattle.dp_pipe.specs.Tracing.{FollowsTraced, Traces, TracesInput, TracesRecords, TracesUntil}
use Rattle.dp_pipe.specs.Watched.{unnoted, DiffersInLists, ShowsInput, ShowsTurns, ShowsUntil}
use Rattle.dp_pipe.proofs.Forwarded.{emptied_all}
use Rattle.dp_pipe.proofs.Rounding.{AreClosed, after_alone, before_alone, decide, gap}
use Rattle.dp_pipe.proofs.TracedReads.{header_fault, remade, round_over, skipped, step_on, step_stops, traced_until, until_none}

-- ---- engines

-- an engine with the same world after the same turns
record IsLike (before after : EngineState) : Type 0 where
  pub world : after.world ≡ before.world
  pub setting : after.setting ≡ before.setting
  pub nodes : after.nodes ≡ before.nodes
  pub turns : after.turns ≡ before.turns

itself : (e : EngineState) → IsLike e e
itself e = record { world = refl; setting = refl; nodes = refl; turns = refl }

-- after the drains of all ports each transmit list is empty
all_drained : (unit : TimeUnit) (time : Time) (e e' : EngineState) (held holds : List Device) → length e.world.outboxes ≡ length e.setting.env.ports
    → DrainedAll unit time e e' held holds → IsLike (record e { world = with_empty_outboxes e.world }) e'
all_drained unit time e e' held holds lists all = record {
  world = ap (λ (x : EngineState). x.world) all.is
      ∙ ap (λ (l : List (List Packet)). record e.world { outboxes = l })
      (ap (λ n. first_emptied n e.world.outboxes) (sym lists) ∙ emptied_all e.world.outboxes);
  setting = ap (λ (x : EngineState). x.setting) all.is;
  nodes = ap (λ (x : EngineState). x.nodes) all.is;
  turns = ap (λ (x : EngineState). x.turns) all.is;
}

-- an engine that differs from another in its transmit lists, by what is in them
other_lists : (w w' : World) (lists : List (List Packet)) → w' ≡ record w { outboxes = lists } → w' ≡ record w { outboxes = w'.outboxes }
other_lists w w' lists is = is ∙ ap (λ (l : List (List Packet)). record w { outboxes = l }) (sym (ap (λ (x : World). x.outboxes) is))

-- where the drains stop, the lists of that port and of those after it are as the writer left them
some_drained : (unit : TimeUnit) (time : Time) (e e' : EngineState) (held holds : List Device) (port : ℕ) → DrainsStopped unit time e e' held holds port
    → DiffersInLists (record e { world = with_empty_outboxes e.world }) e'
some_drained unit time e e' held holds port stops =
    let whole : EngineState = record e { world = with_empty_outboxes e.world } in
    let first = stops.first.is in
    record {
      world = other_lists whole.world e'.world _ (ap (λ (x : EngineState). x.world) stops.is
          ∙ ap (λ (x : EngineState). (drained port stops.whole x).world) first);
      setting = ap (λ (x : EngineState). x.setting) stops.is ∙ ap (λ (x : EngineState). x.setting) first;
      nodes = ap (λ (x : EngineState). x.nodes) stops.is ∙ ap (λ (x : EngineState). x.nodes) first;
      turns = ap (λ (x : EngineState). x.turns) stops.is ∙ ap (λ (x : EngineState). x.turns) first;
    }

-- ---- what was shown until now

module _ {V : Type 0} {sees : V → Event → V → Type 0} {v0 v : V} {most : ℕ} {e0 e : EngineState} {had left : List Device}
    {progress : List InputProgress} {round port more : ℕ} (until : TracesUntil sees unnoted v0 v None most e0 e had left progress round port more) where
  -- another engine like this one
  until_like : (e' : EngineState) → IsLike e e' → TracesUntil sees unnoted v0 v None most e0 e' had left progress round port more
  until_like e' like =
      remade until (record {
        arrivals = until.traced.arrivals;
        traces = subst (λ (w : World). Traces sees unnoted v0 v e0.setting e0.nodes until.traced.arrivals e0.world w) (sym like.world) until.traced.traces;
        only_is = until.traced.only_is;
        many = until.traced.many;
        setting = like.setting ∙ until.traced.setting;
        nodes = like.nodes ∙ until.traced.nodes;
        turns = like.turns ∙ until.traced.turns;
      }) until.arrivals_are until.wanted_is until.reached until.coming until.order until.now

  -- one more is wanted
  one_more : 1 ≤ more → TracesUntil sees unnoted v0 v None (most + 1) e0 e had left progress round port (more + 1)
  one_more some =
      remade until until.traced until.arrivals_are (omega (arith, until.wanted_is)) until.reached until.coming until.order (go until.now)
    where
      go : (more ≡ 0) ⊎ ((until.reached ≡ round) × (until.coming ≡ port)) → (more + 1 ≡ 0) ⊎ ((until.reached ≡ round) × (until.coming ≡ port))
      go (inl none) = absurd (omega (arith, none, some))
      go (inr here) = inr here

  -- all that was shown
  abbrev all_until : TracesRecords sees unnoted v0 v None (length (arrivals_of until.inputs)) e0 e had left (Ok tt)
  all_until = traced_until until (omega arith) (inl (ap length until.arrivals_are))

-- ---- one input

module _ {V : Type 0} {sees : V → Event → V → Type 0} {v v' : V} {port : ℕ} {unit : TimeUnit} {e e' : EngineState} {p p' : InputProgress}
    {old new : Device} {held holds : List Device} (is_open : p.state ≡ Open) (more : ℕ) (some : 1 ≤ more) where
  -- the input was asked
  asked : {whole : EngineState} {fewer : ℕ} {said : Result ⊤ PcapError} {answer : Result ⊤ RunCause}
      (shown : ShowsInput sees v v' port unit e e' p p' old new held holds answer)
      → FollowsTraced shown.0.engine whole p'.state (more + 1) fewer shown.0.next said
      → TracesInput sees unnoted v v' None port e whole p p' old new (more + 1) fewer said
  asked (step, bytes) follows = record {
    some = omega arith;
    is_open = is_open;
    is_traced = tt;
    next = step.next;
    engine = step.engine;
    read = (step.read.0, step.read.1, bytes);
    pulls = step.pulls;
    in_range = step.in_range;
    moves = step.moves;
    follows = follows;
  }

  -- a record came
  came : {answer : Result ⊤ RunCause} (shown : ShowsInput sees v v' port unit e e' p p' old new held holds answer) (time : Time) (len : ℕ)
      → shown.0.next ≡ Ok (Record time len) → p'.state ≡ Open
      → TracesInput sees unnoted v v' None port e (record shown.0.engine { world = with_empty_outboxes shown.0.engine.world }) p p' old new (more + 1) more
      (Ok tt)
  came (step, bytes) time len is open_p' = asked (step, bytes) (rw is (open_p', refl, refl, refl))

  -- it was asked, and the run goes on
  goes : ShowsInput sees v v' port unit e e' p p' old new held holds (Ok tt)
      → (whole : EngineState) × (fewer : ℕ) × (1 ≤ fewer) × TracesInput sees unnoted v v' None port e whole p p' old new (more + 1) fewer (Ok tt)
      × IsLike whole e'
  goes (step, bytes) = go step.next refl step.follows
    where
      go : (answer : Result Next PcapError) → step.next ≡ answer → Follows port unit step.engine e' p'.state held holds answer (Ok tt)
          → (whole : EngineState) × (fewer : ℕ) × (1 ≤ fewer) × TracesInput sees unnoted v v' None port e whole p p' old new (more + 1) fewer (Ok tt)
          × IsLike whole e'
      go (Ok (Record time len)) is (open_p', all) =
          let (fits, turn) = subst (TurnsOn port e step.engine step.read.0) is step.read.2 in (
            record step.engine { world = with_empty_outboxes step.engine.world },
            more,
            some,
            came (step, bytes) time len is open_p',
            all_drained unit time step.engine e' held holds turn.lists all,
          )
      go (Ok End) is (state, ok, same, kept) = (e', more + 1, omega arith, asked (step, bytes) (rw is (state, refl, same, refl)), itself e')
      go (Ok (next.Cut byte)) is (state, ok, same, kept) =
          (e', more + 1, omega arith, asked (step, bytes) (rw is (state, refl, same, refl)), itself e')
      go (Err error) is (state, bad, same, kept) = cc

  -- it has a fault
  fails : {answer : Result ⊤ RunCause} (error : PcapError) (shown : ShowsInput sees v v' port unit e e' p p' old new held holds answer)
      → shown.0.next ≡ Err error
      → p'.state ≡ Open → e' ≡ shown.0.engine → TracesInput sees unnoted v v' None port e e' p p' old new (more + 1) (more + 1) (Err error)
  fails error (step, bytes) is state same = asked (step, bytes) (rw is (state, refl, same, refl))

-- ---- the call for one input

module _ {V R : Type 0} {sees : V → Event → V → Type 0} {v0 v v' : V} {port : ℕ} {unit : TimeUnit} {e0 e e' : EngineState} {p p' : InputProgress}
    (device : R → Device) {r r' : R} {held holds : List Device} {answer : Result ⊤ RunCause} {had : List Device} (ins : List R)
    {progress : List InputProgress} {round : ℕ}
    (step : p.state ≡ Open → ShowsInput sees v v' port unit e e' p p' (device r) (device r') held holds answer)
    (here : slice_get progress port ≡ Some p) (reader : slice_get ins port ≡ Some r)
    (until : ShowsUntil sees v0 v e0 e had (map device ins) progress round port) where
  answers : (x : Result ⊤ RunCause) → answer ≡ x → p.state ≡ Open → ShowsInput sees v v' port unit e e' p p' (device r) (device r') held holds x
  answers x is open_p = subst (λ (y : Result ⊤ RunCause). ShowsInput sees v v' port unit e e' p p' (device r) (device r') held holds y) is (step open_p)

  -- the call was made, and the run goes on
  pub shown_on : ((p.state ≡ Open → ⊥) → (answer ≡ Ok tt) × (e' ≡ e) × (p' ≡ p) × (r' ≡ r) × (v' ≡ v)) → answer ≡ Ok tt
      → ShowsUntil sees v0 v' e0 e' had (map device (slice_set ins port r')) (slice_set progress port p') round (port + 1)
  shown_on over ok = go (decide p.state)
    where
      go : (p.state ≡ Open) ⊎ (p.state ≡ Open → ⊥)
          → ShowsUntil sees v0 v' e0 e' had (map device (slice_set ins port r')) (slice_set progress port p') round (port + 1)
      go (inl open_p) =
          let (most, more, some, was) = until in
          let (whole, fewer, left, input, like) = goes open_p more some (answers (Ok tt) ok open_p) in
          let on = step_on device {r = r} {r' = r'} (inr input) ins (one_more was some) here reader refl in
          (most + 1, fewer, left, until_like on e' like)
      go (inr closed) =
          let (most, more, some, was) = until in
          let (is_ok, e_is, p_is, r_is, v_is) = over closed in (
            most,
            more,
            some,
            step_on device {r = r} {r' = r'} {answer = Ok tt} (inl (inr (inl closed), refl, v_is, e_is, p_is, r_is, refl)) ins was here
                reader refl,
          )

  -- or it stops
  pub shown_stops : ((p.state ≡ Open → ⊥) → answer ≡ Ok tt) → (cause : RunCause) → answer ≡ Err cause
      → ShowsTurns sees v0 v' e0 e' had (map device (slice_set ins port r')) (Err cause)
  shown_stops over cause err = go (decide p.state)
    where
      stopped : p.state ≡ Open → (shown : ShowsInput sees v v' port unit e e' p p' (device r) (device r') held holds (Err cause)) →
          (x : Result Next PcapError) → shown.0.next ≡ x → Follows port unit shown.0.engine e' p'.state held holds x (Err cause)
          → ShowsTurns sees v0 v' e0 e' had (map device (slice_set ins port r')) (Err cause)
      stopped open_p shown (Ok (Record time len)) is (open_p', q, out, drains) =
          let (most, more, some, was) = until in
          let on = step_on device {r = r} {r' = r'} (inr (came open_p more some shown time len is open_p')) ins (one_more was some) here reader refl in
          rw out (
            record shown.0.engine { world = with_empty_outboxes shown.0.engine.world },
            length (arrivals_of on.inputs),
            all_until on,
            some_drained unit time shown.0.engine e' held holds q drains,
          )
      stopped open_p shown (Ok End) is (state, bad, same, kept) = cc
      stopped open_p shown (Ok (next.Cut byte)) is (state, bad, same, kept) = cc
      stopped open_p shown (Err error) is (state, fault, same, kept) =
          let (most, more, some, was) = until in
          let cause_is : cause ≡ In port error = cc in
          let input = fails open_p more some error shown is state same in
          rw cause_is (most + 1, step_stops device {r = r} {r' = r'} (inr input) ins (one_more was some) here reader error refl)

      go : (p.state ≡ Open) ⊎ (p.state ≡ Open → ⊥) → ShowsTurns sees v0 v' e0 e' had (map device (slice_set ins port r')) (Err cause)
      go (inl open_p) = let shown = answers (Err cause) err open_p in stopped open_p shown shown.0.next refl shown.0.follows
      go (inr closed) = let bad : Err cause ≡ Ok tt = sym err ∙ over closed in cc

-- ---- rounds

-- inputs that have ended are skipped
pub shown_over : {V : Type 0} {sees : V → Event → V → Type 0} {v0 v : V} {e0 e : EngineState} {had left : List Device} {progress : List InputProgress}
    {round : ℕ} (n port to : ℕ) → to ≡ port + n → to ≤ length progress → length left ≡ length progress → AreClosed port to progress
    → ShowsUntil sees v0 v e0 e had left progress round port → ShowsUntil sees v0 v e0 e had left progress round to
shown_over zero port to is most many closed until = let same : to ≡ port = omega (arith, is) in rw same until
shown_over {left = left} {progress = progress} (suc n) port to is most many closed (most', more, some, was) =
    let (p, here) = get_within progress port (omega (arith, is, most)) in
    let (d, device) = get_within left port (omega (arith, is, most, many)) in
    shown_over n (port + 1) to (omega (arith, is)) most many (λ q x from below at. closed q x (omega (arith, from)) below at) (
      most',
      more,
      some,
      skipped was here device (inr (inl (closed port p (omega arith) (omega (arith, is)) here))),
    )

module _ {V : Type 0} {sees : V → Event → V → Type 0} {v0 v : V} {e0 e : EngineState} {had left : List Device} {progress : List InputProgress}
    {round port : ℕ} (until : ShowsUntil sees v0 v e0 e had left progress round port) where
  -- after all ports the next round begins
  pub shown_round : length progress ≤ port → ShowsUntil sees v0 v e0 e had left progress (round + 1) 0
  shown_round few = let (most, more, some, was) = until in (most, more, some, round_over was few)

  -- every input has ended
  pub shown_all : NoneIsOpen progress → ShowsTurns sees v0 v e0 e had left (Ok tt)
  shown_all none =
      let (most, more, some, was) = until in (
        length (arrivals_of was.inputs),
        all_until was,
        λ q i at of open_i.
            let (p, here) = get_within progress q (omega (arith, slice_get_within was.inputs q i at, was.progress_is.many)) in
            none q p here ((was.progress_is.each q p i here at).state ∙ open_i),
      )

-- a round in which only one input is open
pub shown_comes : {V : Type 0} {sees : V → Event → V → Type 0} {v0 v : V} {e0 e : EngineState} {had left : List Device} {progress : List InputProgress}
    {round : ℕ} (port : ℕ) → port ≤ length progress → length left ≡ length progress → OnlyIsOpen port progress
    → ShowsUntil sees v0 v e0 e had left progress round 0 → ShowsUntil sees v0 v e0 e had left progress round port
shown_comes {progress = progress} port there many alone until =
    shown_over port 0 port (omega arith) there many (before_alone progress port alone) until

pub shown_ends : {V : Type 0} {sees : V → Event → V → Type 0} {v0 v : V} {e0 e : EngineState} {had left : List Device} {progress : List InputProgress}
    {round : ℕ} (port : ℕ) → port < length progress → length left ≡ length progress → OnlyIsOpen port progress
    → ShowsUntil sees v0 v e0 e had left progress round (port + 1) → ShowsUntil sees v0 v e0 e had left progress (round + 1) 0
shown_ends {progress = progress} port there many alone until =
    let (n, is) = gap (port + 1) (length progress) (omega (arith, there)) in
    shown_round (shown_over n (port + 1) (length progress) is (omega arith) many (after_alone progress port (length progress) alone) until) (omega arith)

-- ---- headers

-- a run begins
pub shown_begun : {V : Type 0} (sees : V → Event → V → Type 0) (v : V) (e : EngineState) (had left : List Device) (progress : List InputProgress)
    → length progress ≡ length had → AreProgressOf had left progress (all_begun progress) → AllByRecursion IsBegun progress
    → ShowsUntil sees v v e e had left progress 0 0
shown_begun sees v e had left progress many progress_is begins =
    (1, 1, omega arith, until_none sees unnoted v None 1 e had left progress many progress_is begins)

-- a header has a fault
pub shown_header : {V : Type 0} (sees : V → Event → V → Type 0) (v : V) (e : EngineState) (had left : List Device) (cause : RunCause)
    → IsHeaderCause had left cause → ShowsTurns sees v v e e had left (Err cause)
shown_header sees v e had left Memory is = absurd is
shown_header sees v e had left NoRoom is = absurd is
shown_header sees v e had left (Out port) is = absurd is
shown_header sees v e had left (In port error) is = (0, header_fault sees unnoted v None 0 e had left (In port error) is)

-- a header was not written whole
pub shown_unwritten : {V : Type 0} (sees : V → Event → V → Type 0) (v : V) (e : EngineState) (had left : List Device) (progress : List InputProgress)
    (unit : TimeUnit) (held holds : List Device) (cause : RunCause) → ShowsUntil sees v v e e had left progress 0 0 → IsWriteCause unit held holds cause
    → ShowsTurns sees v v e e had left (Err cause)
shown_unwritten sees v e had left progress unit held holds Memory until is = absurd is
shown_unwritten sees v e had left progress unit held holds NoRoom until is = absurd is
shown_unwritten sees v e had left progress unit held holds (In port error) until is = absurd is
shown_unwritten sees v e had left progress unit held holds (Out port) (most, more, some, was) is = (
  e,
  length (arrivals_of was.inputs),
  all_until was,
  record {
    world = refl;
    setting = refl;
    nodes = refl;
    turns = refl;
  },
)

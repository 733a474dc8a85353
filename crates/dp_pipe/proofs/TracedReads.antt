-- Tracing goes on with one input: it is not asked, it gives a record, it ends, or it has a fault.
use Rattle.std.proofs.Common.{◌≡◌, ◌≢◌, ℕ, ◌+◌, ◌<◌, ◌≤◌, List, [], ◌∷◌, ◌++◌, length, map, take, Option, Some, None, Result, Ok, Err, refl, sym, ◌∙◌, ap}
use Rattle.std.proofs.Common.{subst, arith, ◌⊎◌, inl, inr, true}
use Rattle.std.specs.Prelude.{slice_get, slice_set, ⊤}
use Rattle.std.specs.List.{AllByRecursion}
use Rattle.std.proofs.lemmas.Bool.{lt-ltb, le-ltb}
use Rattle.std.proofs.lemmas.List.{length-append, length-map, length-set, map-set}
use Rattle.std.proofs.lemmas.Option.{same_Some, slice_get_within}
use Rattle.dp_model.specs.Runs.{Arrival, with_empty_outboxes}
use Rattle.dp_model.specs.Laws.Lists.{each_at, get_set_other, get_within, map_get, set_itself}
use Rattle.dp_pcap.specs.Capture.{PacketRecord}
use Rattle.dp_pcap.specs.SourceState.{SourceState}
use Rattle.dp_pcap.specs.Source.{WhereKnown, HasRead, Continues, IsInRange, Moves, advanced, over}
use Rattle.dp_pcap.specs.declared.format.TheConstants.{MAX_RECORD}
use Rattle.dp_pcap.specs.declared.error.PcapError.{PcapError}
use Rattle.dp_pcap.specs.declared.source.Next.{Next}
use Rattle.dp_pcap.specs.declared.source.Next.TheVariants.{Record, End}
use Rattle.dp_pcap.specs.declared.source.Next.TheVariants as next
use Rattle.dp_pcap.specs.declared.time.Time.{Time}
use Rattle.dp_engine.specs.declared.report.InputState.{InputState}
use Rattle.dp_engine.specs.declared.report.InputState.TheVariants.{Open, Whole, Cut}
use Rattle.dp_engine.specs.Engines.{EngineState}
use Rattle.dp_engine.specs.Watching.{Event}
use Rattle.dp_pipe.specs.Devices.{Device}
use Rattle.dp_pipe.specs.Forwarding.{Input, AreProgressOf, AnswersSo, HasReadSo, IsProgressOf, HasPulled, PullsUpTo, arrivals_of, asked}
use Rattle.dp_pipe.specs.Forwarding.{last_pulls}
use Rattle.dp_pipe.specs.Running.{IsBegun, IsHeaderCause, all_begun, begun}
use Rattle.dp_pipe.specs.Tracing.{Note, IsTraced, HasTraced, TracesRead, TracedUntil, TracesRecords, TracesNext, FollowsTraced, TracesInput}
use Rattle.dp_pipe.specs.Tracing.{AreTracedOver, IsNotAsked, TracesStep, TracesUntil, NoneIsWanted}
use Rattle.dp_pipe.specs.declared.forwarding.InputProgress.{InputProgress}
use Rattle.dp_pipe.specs.declared.forwarding.RunCause.{RunCause}
use Rattle.dp_pipe.specs.declared.forwarding.RunCause.TheVariants.{Memory, NoRoom, In, Out}
use Rattle.dp_pipe.proofs.Advancing.{with_record, ended, arrivals_grown, arrivals_ended, given_few, asked_next, more_due, set_here}
use Rattle.dp_pipe.proofs.Forwarded.{split}
use Rattle.dp_pipe.proofs.Giving.{known_map}
use Rattle.dp_pipe.proofs.GoingOn.{closed_due, wanted, whole_read, cut_read}
use Rattle.dp_pipe.proofs.Heading.{answers_at}
use Rattle.dp_pipe.proofs.Lending.{has_room}
use Rattle.dp_pipe.proofs.RunOn.{arrival}
use Rattle.dp_pipe.proofs.Reading.{are_read, fault_read, last_read, more_read, others_read}
use Rattle.dp_pipe.proofs.Stepping.{input_at, open_going, pulls_whole, pulls_cut}
use Rattle.dp_pipe.proofs.Through.{asked_none, no_arrivals}
use Rattle.dp_pipe.proofs.TracedTurns.{traced_none, traced_push}

-- ---- one call

-- the record that was read is the one whose turn was shown
pub traced_record : {V : Type 0} (sees : V → Event → V → Type 0) (noted : V → Note → V → Type 0) (v v' : V) (port : ℕ) (e e' : EngineState)
    (s s' : SourceState) (a b : Option (List ℕ)) (answer : Result Next PcapError) (time : Time) (len : ℕ) (buf : List ℕ) → answer ≡ Ok (Record time len)
    → WhereKnown a b (λ left rest. Continues s s' left rest buf answer) → IsInRange s answer → MAX_RECORD ≤ length buf
    → (t : TracesRead sees noted v v' port time e e') → t.bytes ≡ take len buf → TracesNext sees noted v v' port e e' s s' a b (Ok (Record time len))
traced_record sees noted v v' port e e' s s' a b answer time len buf is more within large t bytes_are = (
  buf,
  subst (λ (x : Result Next PcapError). WhereKnown a b (λ left rest. Continues s s' left rest buf x)) is more,
  (has_room s answer time len (length buf) is within large, t, bytes_are),
)

-- ---- the order

-- a port is traced or not
traced_or : (only : Option ℕ) (port : ℕ) → IsTraced only port ⊎ (IsTraced only port → ⊥)
traced_or None port = inl tt
traced_or (Some x) port = split port x

-- no input was asked more often than in turn
least_of : (only : Option ℕ) (round port : ℕ) (inputs : List Input) → TracedUntil only round port inputs → (q : ℕ) (j : Input)
    → slice_get inputs q ≡ Some j → length j.records ≤ asked round port q
least_of only round port inputs order q j at = go (traced_or only q)
  where
    go : IsTraced only q ⊎ (IsTraced only q → ⊥) → length j.records ≤ asked round port q
    go (inl is) = given_few round port q j.state (length j.records) ((order q j at).0 is)
    go (inr other) = let none : length j.records ≡ 0 = ap length ((order q j at).1 other).0 in omega (arith, none)

-- an input was asked, and the next one comes
until_next : (only : Option ℕ) (round port : ℕ) (inputs : List Input) (i : Input) → IsTraced only port → TracedUntil only round port inputs
    → AnswersSo i.state (length i.records) (round + 1) → TracedUntil only round (port + 1) (slice_set inputs port i)
until_next only round port inputs i of order answers q j at = go (split q port)
  where
    go : (q ≡ port) ⊎ (q ≢ port) → (IsTraced only q → AnswersSo j.state (length j.records) (asked round (port + 1) q))
        × ((IsTraced only q → ⊥) → (j.records ≡ []) × (j.state ≡ Open))
    go (inl same) =
        let is : i ≡ j = set_here inputs port i j (rw same at at) in (
          λ traced. rw (lt-ltb q (port + 1) (omega (arith, same)), ← is) answers,
          λ none. absurd (none (rw same of)),
        )
    go (inr other) =
        let was : slice_get inputs q ≡ Some j = sym (get_set_other inputs port q i other) ∙ at in (
          λ traced. rw (asked_next round port q other) ((order q j was).0 traced),
          (order q j was).1,
        )

-- an input is skipped, since it has ended or is not traced
until_skip : (only : Option ℕ) (round port : ℕ) (inputs : List Input) (i : Input) → slice_get inputs port ≡ Some i
    → (i.state ≢ Open) ⊎ (IsTraced only port → ⊥) → TracedUntil only round port inputs → TracedUntil only round (port + 1) inputs
until_skip only round port inputs i here why order q j at = go (split q port) why
  where
    go : (q ≡ port) ⊎ (q ≢ port) → (i.state ≢ Open) ⊎ (IsTraced only port → ⊥)
        → (IsTraced only q → AnswersSo j.state (length j.records) (asked round (port + 1) q)) × ((IsTraced only q → ⊥) → (j.records ≡ []) × (j.state ≡ Open))
    go (inl same) (inl over) =
        let is : i ≡ j = same_Some i j (sym here ∙ rw same at at) in (
          λ traced. rw (lt-ltb q (port + 1) (omega (arith, same))) (more_due j.state (length j.records) round (rw (← is) over)
              (rw (le-ltb q port (omega (arith, same))) at ((order q j at).0 traced))),
          (order q j at).1,
        )
    go (inl same) (inr none) = (λ traced. absurd (none (rw same at traced)), (order q j at).1)
    go (inr other) why = (λ traced. rw (asked_next round port q other) ((order q j at).0 traced), (order q j at).1)

-- after all ports the next round begins
until_round : (only : Option ℕ) (inputs : List Input) (round n : ℕ) → length inputs ≤ n → TracedUntil only round n inputs →
    TracedUntil only (round + 1) 0 inputs
until_round only inputs round n many order q i at =
    let within = slice_get_within inputs q i at in (
      λ traced. rw (le-ltb q 0 (omega arith)) (rw (lt-ltb q n (omega (arith, within, many))) at ((order q i at).0 traced)),
      (order q i at).1,
    )

-- tracing that goes on with the same inputs, to an engine like this one, to another number of records, or where another port comes next
pub remade : {V : Type 0} {sees : V → Event → V → Type 0} {noted : V → Note → V → Type 0} {v0 v : V} {only : Option ℕ} {most most' : ℕ}
    {e0 e e' : EngineState} {had left : List Device} {progress : List InputProgress} {round round' port port' need need' : ℕ}
    (until : TracesUntil sees noted v0 v only most e0 e had left progress round port need)
    (traced : HasTraced sees noted v0 v only (length (arrivals_of until.inputs)) e0 e') → traced.arrivals ≡ arrivals_of until.inputs
    → need' + length (arrivals_of until.inputs) ≡ most' → (reached coming : ℕ) → TracedUntil only reached coming until.inputs
    → (need' ≡ 0) ⊎ ((reached ≡ round') × (coming ≡ port')) → TracesUntil sees noted v0 v only most' e0 e' had left progress round' port' need'
remade until traced arrivals_are wanted_is reached coming order now = record {
  inputs = until.inputs;
  many = until.many;
  progress_is = until.progress_is;
  reached = reached;
  coming = coming;
  order = order;
  traced = traced;
  arrivals_are = arrivals_are;
  wanted_is = wanted_is;
  now = now;
}

-- ---- one input

module _ {V : Type 0} {sees : V → Event → V → Type 0} {noted : V → Note → V → Type 0} {v0 v : V} {only : Option ℕ} {most : ℕ} {e0 e : EngineState}
    {had left : List Device} {progress : List InputProgress} {round port need : ℕ} {p : InputProgress} {a : Device}
    (until : TracesUntil sees noted v0 v only most e0 e had left progress round port need)
    (here : slice_get progress port ≡ Some p) (left_a : slice_get left port ≡ Some a) where
  abbrev i : Input
  i = (input_at port until.progress_is here).0

  i_here : slice_get until.inputs port ≡ Some i
  i_here = (input_at port until.progress_is here).1

  i_progress : IsProgressOf p i
  i_progress = (input_at port until.progress_is here).2

  -- where tracing has come
  order_at : until.reached ≡ round → until.coming ≡ port → TracedUntil only round port until.inputs
  order_at at coming = rw (at, coming) at until.order

  order_now : 1 ≤ need → TracedUntil only round port until.inputs
  order_now some = go until.now
    where
      go : (need ≡ 0) ⊎ ((until.reached ≡ round) × (until.coming ≡ port)) → TracedUntil only round port until.inputs
      go (inl none) = absurd (omega (arith, none, some))
      go (inr (at, coming)) = order_at at coming

  i_open : p.state ≡ Open → i.state ≡ Open
  i_open open_p = sym i_progress.state ∙ open_p

  count_now : IsTraced only port → p.state ≡ Open → 1 ≤ need → length i.records ≡ round
  count_now of open_p some = wanted round port (length i.records) i.state (i_open open_p) ((order_now some port i i_here).0 of)

  -- it is not asked
  pub skipped : IsNotAsked only port p need → TracesUntil sees noted v0 v only most e0 e had left progress round (port + 1) need
  skipped why = go why until.now
    where
      of_input : (p.state ≢ Open) ⊎ (IsTraced only port → ⊥) → (i.state ≢ Open) ⊎ (IsTraced only port → ⊥)
      of_input (inl over) = inl (λ e. over (i_progress.state ∙ e))
      of_input (inr none) = inr none

      go : IsNotAsked only port p need → (need ≡ 0) ⊎ ((until.reached ≡ round) × (until.coming ≡ port))
          → TracesUntil sees noted v0 v only most e0 e had left progress round (port + 1) need
      go (inl none) now = remade until until.traced until.arrivals_are until.wanted_is until.reached until.coming until.order (inl none)
      go (inr other) (inl none) = remade until until.traced until.arrivals_are until.wanted_is until.reached until.coming until.order (inl none)
      go (inr other) (inr (at, coming)) =
          remade until until.traced until.arrivals_are until.wanted_is round (port + 1) (until_skip only round port until.inputs i i_here (of_input other)
          (order_at at coming)) (inr (refl, refl))

  -- another engine, tracer and input after it
  module _ (v' : V) (e' : EngineState) (need' : ℕ) (p' : InputProgress) (b : Device) where
    -- a record came
    record_on : (time : Time) (len : ℕ) (buf : List ℕ) (e1 : EngineState) → IsTraced only port → p.state ≡ Open → 1 ≤ need → len ≤ length buf
        → b.calls ≤ a.calls + (16 + len)
        → WhereKnown a.bytes b.bytes (λ rest last. Continues p.source p'.source rest last buf (Ok (Record time len)))
        → p.source.given < 16777216 → p'.source ≡ advanced p.source len → p'.state ≡ Open → (t : TracesRead sees noted v v' port time e e1)
        → t.bytes ≡ take len buf → e' ≡ record e1 { world = with_empty_outboxes e1.world } → need' + 1 ≡ need
        → TracesUntil sees noted v0 v' only most e0 e' had (slice_set left port b) (slice_set progress port p') round (port + 1) need'
    record_on time len buf e1 of open_p some fits pulls more less moved open_p' t bytes_are e_is fewer =
        let r : PacketRecord = record { time = time; bytes = take len buf } in
        let i' = with_record r i in
        let is_open = i_open open_p in
        let order = order_now some in
        let count = count_now of open_p some in
        let arrivals : arrivals_of (slice_set until.inputs port i') ≡ arrivals_of until.inputs ++ arrival port time (take len buf) ∷ [] =
        arrivals_grown until.inputs round port i r i_here count (least_of only round port until.inputs order) in
        let long : length (arrivals_of until.inputs) + 1 ≡ length (arrivals_of (slice_set until.inputs port i')) =
        sym (ap length arrivals ∙ length-append (arrivals_of until.inputs) (arrival port time (take len buf) ∷ [])) in
        let (pushed, those) = traced_push until.traced t of in
        let all : pushed.arrivals ≡ arrivals_of (slice_set until.inputs port i') = those
        ∙ ap (λ (l : List (Arrival Time)). l ++ arrival port time t.bytes ∷ []) until.arrivals_are
        ∙ ap (λ (bytes : List ℕ). arrivals_of until.inputs ++ arrival port time bytes ∷ []) bytes_are ∙ sym arrivals in
        let e2 : EngineState = record e1 { world = with_empty_outboxes e1.world } in
        let (traced, arrivals_are) = subst (λ n. (x : HasTraced sees noted v0 v' only n e0 e2) × (x.arrivals ≡ arrivals_of (slice_set until.inputs port i')))
        long (pushed, all) in
        rw e_is (record {
          inputs = slice_set until.inputs port i';
          many = length-set until.inputs port i' ∙ until.many;
          progress_is = more_read port until.progress_is p' here i_here open_p b left_a time len buf fits pulls more less moved open_p';
          reached = round;
          coming = port + 1;
          order = until_next only round port until.inputs i' of order (rw is_open (length-append i.records (r ∷ []) ∙ ap (λ m. m + 1) count));
          traced = traced;
          arrivals_are = arrivals_are;
          wanted_is = omega (arith, until.wanted_is, long, fewer);
          now = inr (refl, refl);
        })

    -- the input ended
    ended_on : (state : InputState) → (state ≡ Open → ⊥) → IsTraced only port → p.state ≡ Open → 1 ≤ need → b.calls ≤ a.calls + last_pulls state
        → WhereKnown a.bytes b.bytes (PullsUpTo state a.calls b.calls)
        → WhereKnown a.bytes b.bytes (λ rest last. (bytes : List ℕ) (records : List PacketRecord) → HasRead bytes p.source records rest →
        HasReadSo state p'.source records bytes last)
        → p'.source ≡ over p.source → p'.state ≡ state → v' ≡ v → e' ≡ e → need' ≡ need
        → TracesUntil sees noted v0 v' only most e0 e' had (slice_set left port b) (slice_set progress port p') round (port + 1) need'
    ended_on state closed of open_p some pulls final more moved is v_is e_is need_is =
        let is_open = i_open open_p in
        let count = count_now of open_p some in
        let arrivals : arrivals_of (slice_set until.inputs port (ended state i)) ≡ arrivals_of until.inputs = arrivals_ended until.inputs port i state i_here in
        let (traced, arrivals_are) = subst (λ (l : List (Arrival Time)). (x : HasTraced sees noted v0 v only (length l) e0 e) × (x.arrivals ≡ l)) (sym arrivals)
        (until.traced, until.arrivals_are) in
        rw (v_is, e_is, need_is) (record {
          inputs = slice_set until.inputs port (ended state i);
          many = length-set until.inputs port (ended state i) ∙ until.many;
          progress_is = last_read port until.progress_is p' here i_here open_p b left_a state closed pulls final more moved is;
          reached = round;
          coming = port + 1;
          order = until_next only round port until.inputs (ended state i) of (order_now some) (closed_due state (length i.records) round closed count);
          traced = traced;
          arrivals_are = arrivals_are;
          wanted_is = ap (λ (l : List (Arrival Time)). need + length l) arrivals ∙ until.wanted_is;
          now = inr (refl, refl);
        })

    -- it is at fault
    fault_here : (error : PcapError) (buf : List ℕ) → IsTraced only port → p.state ≡ Open → 1 ≤ need → HasPulled (Err error) a b
        → WhereKnown a.bytes b.bytes (λ rest last. Continues p.source p'.source rest last buf (Err error)) → v' ≡ v → e' ≡ e
        → TracesRecords sees noted v0 v' only most e0 e' had (slice_set left port b) (Err (In port error))
    fault_here error buf of open_p some pulls more v_is e_is =
        let is_open = i_open open_p in
        let long = ap length until.arrivals_are in
        rw (v_is, e_is) (record {
          count = length (arrivals_of until.inputs);
          few = omega (arith, until.wanted_is);
          traced = until.traced;
          read = inr (record {
            inputs = until.inputs;
            many = until.many;
            arrivals_are = until.arrivals_are;
            fewer = omega (arith, long, until.wanted_is, some);
            is_traced = of;
            round = round;
            order = order_now some;
            input = i;
            input_is = i_here;
            is_open = is_open;
            fault = fault_read port until.progress_is p' here i_here open_p b left_a error buf pulls more;
            others = others_read port until.progress_is p' here i_here open_p b left_a;
          });
        })

    -- it was asked, and tracing goes on
    goes_on : TracesInput sees noted v v' only port e e' p p' a b need need' (Ok tt)
        → TracesUntil sees noted v0 v' only most e0 e' had (slice_set left port b) (slice_set progress port p') round (port + 1) need'
    goes_on step = go step.next step.read step.pulls step.in_range step.moves step.follows
      where
        go : (answer : Result Next PcapError) → TracesNext sees noted v v' port e step.engine p.source p'.source a.bytes b.bytes answer →
            HasPulled answer a b → IsInRange p.source answer → Moves p.source p'.source answer →
            FollowsTraced step.engine e' p'.state need need' answer (Ok tt)
            → TracesUntil sees noted v0 v' only most e0 e' had (slice_set left port b) (slice_set progress port p') round (port + 1) need'
        go (Ok (Record time len)) (buf, more, (fits, t, bytes_are)) (pulls, final) (nano, few, less) moves (open_p', ok, e_is, fewer) =
            record_on time len buf step.engine step.is_traced step.is_open step.some fits pulls more less moves open_p' t bytes_are e_is fewer
        go (Ok End) (buf, more, (v_is, same)) (pulls, final) range moves (is, ok, e_is, need_is) =
            ended_on Whole (λ c. cc) step.is_traced step.is_open step.some pulls (pulls_whole a b final) (known_map a.bytes b.bytes _ _
            (λ rest last now bytes records has. whole_read p.source p'.source records bytes moves (now bytes records has)) more) moves is v_is (e_is ∙ same)
            need_is
        go (Ok (next.Cut byte)) (buf, more, (v_is, same)) (pulls, final) range moves (is, ok, e_is, need_is) =
            ended_on (Cut byte) (λ c. cc) step.is_traced step.is_open step.some pulls (pulls_cut byte a b final) (known_map a.bytes b.bytes _ _
            (λ rest last now bytes records has. cut_read byte p.source p'.source records bytes moves (now bytes records has)) more) moves is v_is
            (e_is ∙ same) need_is
        go (Err error) reads pulls range moves (is, bad, e_is, need_is) = cc

    -- it was asked, and tracing stops
    stops : (error : PcapError) → TracesInput sees noted v v' only port e e' p p' a b need need' (Err error)
        → TracesRecords sees noted v0 v' only most e0 e' had (slice_set left port b) (Err (In port error))
    stops error step = go step.next step.read step.pulls step.follows
      where
        same_error : (x y : PcapError) → ◌≡◌ {A = Result ⊤ PcapError} (Err x) (Err y) → x ≡ y
        same_error x y is = cc

        go : (answer : Result Next PcapError) → TracesNext sees noted v v' port e step.engine p.source p'.source a.bytes b.bytes answer →
            HasPulled answer a b → FollowsTraced step.engine e' p'.state need need' answer (Err error)
            → TracesRecords sees noted v0 v' only most e0 e' had (slice_set left port b) (Err (In port error))
        go (Ok (Record time len)) reads pulls (is, bad, e_is, fewer) = cc
        go (Ok End) reads pulls (is, bad, e_is, need_is) = cc
        go (Ok (next.Cut byte)) reads pulls (is, bad, e_is, need_is) = cc
        go (Err found) (buf, more, (v_is, same)) pulls (is, answer_is, e_is, need_is) =
            rw (same_error error found answer_is) (fault_here found buf step.is_traced step.is_open step.some pulls more v_is (e_is ∙ same))

-- ---- the call for one input

module _ {V R : Type 0} {sees : V → Event → V → Type 0} {noted : V → Note → V → Type 0} {v v' : V} {only : Option ℕ} {port : ℕ} {e e' : EngineState}
    {p p' : InputProgress} (device : R → Device) {r r' : R} {need need' : ℕ} {answer : Result ⊤ PcapError}
    (step : TracesStep sees noted v v' only port e e' p p' device r r' need need' answer) where
  -- each record takes one turn
  pub step_counts : (e'.turns + need' ≡ e.turns + need) × (e'.setting ≡ e.setting)
  step_counts = go step
    where
      of_next : (answered : Result Next PcapError) (e1 : EngineState)
          → TracesNext sees noted v v' port e e1 p.source p'.source (device r).bytes (device r').bytes answered
          → FollowsTraced e1 e' p'.state need need' answered answer → (e'.turns + need' ≡ e.turns + need) × (e'.setting ≡ e.setting)
      of_next (Ok (Record time len)) e1 (buf, more, (fits, t, bytes_are)) (open_p', ok, e_is, fewer) =
          let turns = ap (λ (x : EngineState). x.turns) e_is in
          (omega (arith, turns, t.turns, fewer), ap (λ (x : EngineState). x.setting) e_is ∙ t.setting)
      of_next (Ok End) e1 (buf, more, (v_is, same)) (is, ok, e_is, need_is) = rw (e_is, same, need_is) (refl, refl)
      of_next (Ok (next.Cut byte)) e1 (buf, more, (v_is, same)) (is, ok, e_is, need_is) = rw (e_is, same, need_is) (refl, refl)
      of_next (Err error) e1 (buf, more, (v_is, same)) (is, ok, e_is, need_is) = rw (e_is, same, need_is) (refl, refl)

      go : TracesStep sees noted v v' only port e e' p p' device r r' need need' answer → (e'.turns + need' ≡ e.turns + need) × (e'.setting ≡ e.setting)
      go (inl (why, ok, v_is, e_is, p_is, r_is, need_is)) = rw (e_is, need_is) (refl, refl)
      go (inr input) = of_next input.next input.engine input.read input.follows

  module _ {v0 : V} {most : ℕ} {e0 : EngineState} {had : List Device} (ins : List R) {progress : List InputProgress} {round : ℕ}
      (until : TracesUntil sees noted v0 v only most e0 e had (map device ins) progress round port need)
      (here : slice_get progress port ≡ Some p) (reader : slice_get ins port ≡ Some r) where
    pub step_on : answer ≡ Ok tt
        → TracesUntil sees noted v0 v' only most e0 e' had (map device (slice_set ins port r')) (slice_set progress port p') round (port + 1) need'
    step_on done = go step
      where
        go : TracesStep sees noted v v' only port e e' p p' device r r' need need' answer
            → TracesUntil sees noted v0 v' only most e0 e' had (map device (slice_set ins port r')) (slice_set progress port p') round (port + 1) need'
        go (inl (why, ok, v_is, e_is, p_is, r_is, need_is)) =
            rw (v_is, e_is, p_is, r_is, need_is, set_itself ins port r reader, set_itself progress port p here)
            (skipped until here (map_get device ins port r reader) why)
        go (inr input) =
            rw (map-set device ins port r') (goes_on until here (map_get device ins port r reader) v' e' need' p' (device r')
            (rw done at input))

    pub step_stops : (error : PcapError) → answer ≡ Err error
        → TracesRecords sees noted v0 v' only most e0 e' had (map device (slice_set ins port r')) (Err (In port error))
    step_stops error bad = go step
      where
        go : TracesStep sees noted v v' only port e e' p p' device r r' need need' answer
            → TracesRecords sees noted v0 v' only most e0 e' had (map device (slice_set ins port r')) (Err (In port error))
        go (inl (why, ok, v_is, e_is, p_is, r_is, need_is)) = let both : ◌≡◌ {A = Result ⊤ PcapError} (Err error) (Ok tt) = sym bad ∙ ok in cc
        go (inr input) =
            rw (map-set device ins port r') (stops until here (map_get device ins port r reader) v' e' need' p' (device r') error
            (rw bad at input))

-- ---- rounds

module _ {V : Type 0} {sees : V → Event → V → Type 0} {noted : V → Note → V → Type 0} {v0 v : V} {only : Option ℕ} {most : ℕ} {e0 e : EngineState}
    {had left : List Device} {progress : List InputProgress} {round port need : ℕ}
    (until : TracesUntil sees noted v0 v only most e0 e had left progress round port need) where
  -- a source is open as long as its input is
  pub open_until : (q : ℕ) {p : InputProgress} → slice_get progress q ≡ Some p → p.state ≡ Open → p.source.is_open ≡ true
  open_until q {p} here open_p =
      let (i, i_here, is_progress) = input_at q until.progress_is here in
      (open_going i.state p.source (length i.records) (sym is_progress.state ∙ open_p) is_progress.goes_on).0

  -- after all ports the next round begins
  pub round_over : length progress ≤ port → TracesUntil sees noted v0 v only most e0 e had left progress (round + 1) 0 need
  round_over few = go until.now
    where
      go : (need ≡ 0) ⊎ ((until.reached ≡ round) × (until.coming ≡ port)) → TracesUntil sees noted v0 v only most e0 e had left progress (round + 1) 0 need
      go (inl none) = remade until until.traced until.arrivals_are until.wanted_is until.reached until.coming until.order (inl none)
      go (inr (at, coming)) =
          remade until until.traced until.arrivals_are until.wanted_is (round + 1) 0 (until_round only until.inputs round port
          (omega (arith, until.progress_is.many, few))
          (rw (at, coming) at until.order)) (inr (refl, refl))

  -- no input has enough records to be still open
  pub none_wanted : port ≡ 0 → 16777217 ≤ round → NoneIsWanted only progress need
  none_wanted start past = go until.now
    where
      go : (need ≡ 0) ⊎ ((until.reached ≡ round) × (until.coming ≡ port)) → NoneIsWanted only progress need
      go (inl none) = inl none
      go (inr (at, coming)) = inr (λ q p here of open_p.
          let (i, i_here, is_progress) = input_at q until.progress_is here in
          let order : TracedUntil only round 0 until.inputs = rw (at, coming ∙ start) at until.order in
          let given : length i.records ≡ round = rw (sym is_progress.state ∙ open_p, le-ltb q 0 (omega arith)) at ((order q i i_here).0 of) in
          absurd (omega (arith, is_progress.few, given, past)))

  -- all that was traced, where that is enough
  abbrev pub traced_until : {n : ℕ} → length (arrivals_of until.inputs) ≤ n → (length until.traced.arrivals ≡ n) ⊎ AreTracedOver only until.inputs
      → TracesRecords sees noted v0 v only n e0 e had left (Ok tt)
  traced_until few enough = record {
    count = length (arrivals_of until.inputs);
    few = few;
    traced = until.traced;
    read = record {
      inputs = until.inputs;
      many = until.many;
      arrivals_are = until.arrivals_are;
      read = are_read until.progress_is;
      enough = enough;
      round = until.reached;
      port = until.coming;
      order = until.order;
    };
  }

  -- no more is to be traced
  pub all_traced : NoneIsWanted only progress need → TracesRecords sees noted v0 v only most e0 e had left (Ok tt)
  all_traced none = traced_until (omega (arith, until.wanted_is)) (go none)
    where
      go : NoneIsWanted only progress need → (length until.traced.arrivals ≡ most) ⊎ AreTracedOver only until.inputs
      go (inl none) = let long = ap length until.arrivals_are in inl (omega (arith, long, until.wanted_is, none))
      go (inr over) = inr (λ q i at of open_i.
          let (p, here) = get_within progress q (omega (arith, slice_get_within until.inputs q i at, until.progress_is.many)) in
          over q p here of ((until.progress_is.each q p i here at).state ∙ open_i))

-- ---- headers

-- tracing begins
pub until_none : {V : Type 0} (sees : V → Event → V → Type 0) (noted : V → Note → V → Type 0) (v : V) (only : Option ℕ) (most : ℕ) (e : EngineState)
    (had left : List Device) (progress : List InputProgress) → length progress ≡ length had → AreProgressOf had left progress (all_begun progress)
    → AllByRecursion IsBegun progress → TracesUntil sees noted v v only most e e had left progress 0 0 most
until_none sees noted v only most e had left progress many progress_is begins =
    let none = ap length (no_arrivals progress) in
    record {
      inputs = all_begun progress;
      many = length-map progress begun ∙ many;
      progress_is = progress_is;
      reached = 0;
      coming = 0;
      order = λ q i at. let (p, there, is) = answers_at begun progress q i at in
          let is_open = (each_at IsBegun progress q p begins there).state in (
            λ traced. rw (is, is_open) (sym (asked_none q)),
            λ other. (ap (λ (x : Input). x.records) is, ap (λ (x : Input). x.state) is ∙ is_open),
          );
      traced = record {
        arrivals = [];
        traces = (refl, refl);
        only_is = tt;
        many = sym none;
        setting = refl;
        nodes = refl;
        turns = omega (arith, none);
      };
      arrivals_are = sym (no_arrivals progress);
      wanted_is = omega (arith, none);
      now = inr (refl, refl);
    }

-- a header has a fault, and nothing is traced
pub header_fault : {V : Type 0} (sees : V → Event → V → Type 0) (noted : V → Note → V → Type 0) (v : V) (only : Option ℕ) (most : ℕ) (e : EngineState)
    (had left : List Device) (cause : RunCause) → IsHeaderCause had left cause → TracesRecords sees noted v v only most e e had left (Err cause)
header_fault sees noted v only most e had left Memory is = absurd is
header_fault sees noted v only most e had left NoRoom is = absurd is
header_fault sees noted v only most e had left (Out port) is = absurd is
header_fault sees noted v only most e had left (In port error) is = record {
  count = 0;
  few = omega arith;
  traced = traced_none sees noted v only e;
  read = inl (refl, is);
}

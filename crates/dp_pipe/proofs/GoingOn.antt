-- A run continues with one input's answer.
use Rattle.std.proofs.Common.{◌*◌, ◌≡◌, ℕ, zero, suc, ◌+◌, ◌<◌, ◌≤◌, List, [], ◌∷◌, length, take, Some}
use Rattle.std.proofs.Common.{Result, Ok, Err, refl, sym, ◌∙◌, ap, subst, arith}
use Rattle.std.specs.Prelude.{slice_get, slice_set}
use Rattle.std.proofs.lemmas.Bool.{le-ltb}
use Rattle.std.proofs.lemmas.List.{length-append, length-map, length-set}
use Rattle.std.proofs.lemmas.Option.{same_Some}
use Rattle.dp_pcap.specs.declared.time.Time.{Time}
use Rattle.dp_pcap.specs.declared.time.Unit.{Unit as TimeUnit}
use Rattle.dp_pcap.specs.declared.error.PcapError.{PcapError}
use Rattle.dp_pcap.specs.declared.source.Next.{Next}
use Rattle.dp_pcap.specs.declared.source.Next.TheVariants.{Record, End}
use Rattle.dp_pcap.specs.declared.source.Next.TheVariants as next
use Rattle.dp_pcap.specs.SourceState.{SourceState}
use Rattle.dp_pcap.specs.Capture.{PacketRecord, IsCapture}
use Rattle.dp_pcap.specs.Capture as capture
use Rattle.dp_pcap.specs.Source.{WhereKnown, HasRead, Continues, IsInRange, Moves, advanced, over}
use Rattle.dp_model.specs.Machine.{Setting}
use Rattle.dp_model.specs.Runs.{records_at, joined}
use Rattle.dp_engine.specs.declared.report.InputState.{InputState}
use Rattle.dp_engine.specs.declared.report.InputState.TheVariants.{Open, Whole, Cut}
use Rattle.dp_engine.specs.Engines.{EngineState}
use Rattle.dp_pipe.specs.declared.forwarding.InputProgress.{InputProgress}
use Rattle.dp_pipe.specs.Devices.{Device, Transfer}
use Rattle.dp_pipe.specs.Forwarding.{Input, HasReadSo, ReadsTurn, HasTurn, DrainedAll, DrainedFirst, Follows}
use Rattle.dp_pipe.specs.Forwarding.{Advances, AreProgressOf, AreWritten, AskedUntil, RunUntil, AnswersSo, HasPulled, PullsUpTo, asked, arrivals_of}
use Rattle.dp_pipe.specs.Forwarding.{HasRun, capture_at, last_pulls, records_many, unit_for, units_of}
use Rattle.dp_pipe.proofs.RunOn.{run_on, arrival}
use Rattle.dp_pipe.proofs.Advancing.{with_record, ended, arrivals_more, arrivals_ended, order_next, wrote_more, joined_many}
use Rattle.dp_pipe.proofs.Units.{units_set}
use Rattle.dp_pipe.proofs.Stepping.{input_at, pulls_whole, pulls_cut}
use Rattle.dp_pipe.proofs.Giving.{known_map}
use Rattle.dp_pipe.proofs.Reading.{more_read, last_read}

-- what all steps of a round share: as many inputs, readers and writers as ports
pub record AreMany (e : EngineState) (holds : List Device) : Type 0 where
  pub counted : length e.tallies ≡ 8
  pub few : length e.setting.env.ports ≤ 8
  pub holds_many : length holds ≡ length e.setting.env.ports

-- the devices after the reader of a port was called, and what the writers hold then
abbrev pub after_asking : Transfer → ℕ → Device → List Device → Transfer
after_asking t port reader holds = record t { left = slice_set t.left port reader; holds = holds }

-- one record more
many_more : (inputs : List Input) (n : ℕ) (i : Input) (r : PacketRecord) → slice_get inputs n ≡ Some i → records_many (slice_set inputs n (with_record r i))
    ≡ records_many inputs + 1
many_more [] n i r e = cc
many_more (x ∷ inputs) zero i r e =
    let same = ap (λ (j : Input). length j.records) (same_Some x i e) in
    let more = length-append i.records (r ∷ []) in
    omega (arith, same, more)
many_more (x ∷ inputs) (suc n) i r e = let more = many_more inputs n i r e in omega (arith, more)

many_ended : (inputs : List Input) (n : ℕ) (i : Input) (state : InputState) → slice_get inputs n ≡ Some i → records_many (slice_set inputs n (ended state i))
    ≡ records_many inputs
many_ended [] n i state e = cc
many_ended (x ∷ inputs) zero i state e = ap (λ (j : Input). length j.records + records_many inputs) (sym (same_Some x i e))
many_ended (x ∷ inputs) (suc n) i state e = ap (λ m. length x.records + m) (many_ended inputs n i state e)

-- eight inputs have at most as many records as an engine takes turns
pub many_least : (inputs : List Input) (n : ℕ) (i : Input) → slice_get inputs n ≡ Some i →
    ((q : ℕ) (j : Input) → slice_get inputs q ≡ Some j → length j.records ≤ 16777216)
    → records_many inputs + 16777216 ≤ length i.records + length inputs * 16777216
many_least [] n i e few = cc
many_least (x ∷ inputs) zero i e few =
    let same = ap (λ (j : Input). length j.records) (same_Some x i e) in
    let most = all_most inputs (λ q j at. few (suc q) j at) in
    omega (arith, same, most)
  where
    all_most : (inputs : List Input) → ((q : ℕ) (j : Input) → slice_get inputs q ≡ Some j → length j.records ≤ 16777216) →
        records_many inputs ≤ length inputs * 16777216
    all_most [] few = omega arith
    all_most (x ∷ inputs) few = let more = all_most inputs (λ q j at. few (suc q) j at) in omega (arith, more, few 0 x refl)
many_least (x ∷ inputs) (suc n) i e few = let more = many_least inputs n i e (λ q j at. few (suc q) j at) in omega (arith, more, few 0 x refl)

-- an open input returned as many records as there were reads of it
pub wanted : (round port count : ℕ) (state : InputState) → state ≡ Open → AnswersSo state count (asked round port port) → count ≡ round
wanted round port count state e is = rw (e, le-ltb port port (omega arith)) at is

-- an input that has ended gave fewer records than it was asked for
pub closed_due : (state : InputState) (count round : ℕ) → (state ≡ Open → ⊥) → count ≡ round → AnswersSo state count (round + 1)
closed_due Open count round closed is = absurd (closed refl)
closed_due Whole count round closed is = omega (arith, is)
closed_due (Cut byte) count round closed is = omega (arith, is)

pub whole_read : (s s' : SourceState) (records : List PacketRecord) (bytes : List ℕ) → s' ≡ over s → IsCapture bytes s.unit records capture.Ending.Whole →
    IsCapture bytes s'.unit records capture.Ending.Whole
whole_read s s' records bytes is h = rw is h

pub cut_read : (byte : ℕ) (s s' : SourceState) (records : List PacketRecord) (bytes : List ℕ) → s' ≡ over s →
    IsCapture bytes s.unit records (capture.Ending.Cut byte) → IsCapture bytes s'.unit records (capture.Ending.Cut byte)
cut_read byte s s' records bytes is h = rw is h

-- a run goes on from where it was, with what was read, asked and written by then
pub went_on : {unit : TimeUnit} {e0 e e' : EngineState} {t : Transfer} {progress progress' : List InputProgress} {inputs inputs' : List Input}
    {round round' port port' : ℕ} (along : RunUntil unit e0 e t progress inputs round port) (left holds : List Device) → length inputs' ≡ length inputs
    → units_of inputs' ≡ units_of inputs → AreProgressOf t.had left progress' inputs' → AskedUntil round' port' inputs'
    → length (arrivals_of inputs') ≡ records_many inputs' → (captures : List (List (Time × List ℕ))) → length captures ≡ length along.captures
    → HasRun e0 e' (arrivals_of inputs') captures → AreWritten unit t.held holds (capture_at captures)
    → RunUntil unit e0 e' (record t { left = left; holds = holds }) progress' inputs' round' port'
went_on along left holds many units progress_is order total captures longer run wrote = record {
  first = along.first;
  held_many = along.held_many;
  inputs_many = many ∙ along.inputs_many;
  unit_is = along.unit_is ∙ ap unit_for (sym units);
  progress_is = progress_is;
  order = order;
  total = total;
  captures = captures;
  many = longer ∙ along.many;
  run = run;
  wrote = wrote;
}

module _ {unit : TimeUnit} {e0 e : EngineState} {t : Transfer} {progress : List InputProgress} {inputs : List Input} {round port : ℕ}
    (along : RunUntil unit e0 e t progress inputs round port) (many : AreMany e0 t.holds) {p : InputProgress} (p' : InputProgress)
    (here : slice_get progress port ≡ Some p) (open_p : p.state ≡ Open) (there : port < length e0.setting.env.ports)
    {a : Device} (b : Device) (left_a : slice_get t.left port ≡ Some a) where
  -- a record came
  record_on : (time : Time) (len : ℕ) (buf : List ℕ) (e1 e2 : EngineState) (holds : List Device)
      → len ≤ length buf → b.calls ≤ a.calls + (16 + len)
      → WhereKnown a.bytes b.bytes (λ left rest. Continues p.source p'.source left rest buf (Ok (Record time len))) → p.source.given < 16777216 →
      p'.source ≡ advanced p.source len
      → HasTurn port e e1 (take len buf) → p'.state ≡ Open → DrainedAll unit time e1 e2 t.holds holds
      → (inputs' : List Input) × RunUntil unit e0 e2 (after_asking t port b holds) (slice_set progress port p') inputs' round (port + 1)
  record_on time len buf e1 e2 holds fits pulls more less moved turn open_p' drains =
      let (i, i_here, i_progress) = input_at port along.progress_is here in
      let i_open = sym i_progress.state ∙ open_p in
      let r : PacketRecord = record { time = time; bytes = take len buf } in
      let i' = with_record r i in
      let count = wanted round port (length i.records) i.state i_open (along.order port i i_here) in
      let setting1 = ap (λ (x : EngineState). x.setting) turn.is ∙ ap (λ (x : EngineState). x.setting) along.run.stays in
      let n = length e0.setting.env.ports in
      let boxes : length e1.world.outboxes ≡ n = turn.lists ∙ ap (λ (x : Setting). length x.env.ports) setting1 in
      let all : DrainedFirst n unit time e1 e2 t.holds holds = subst (λ (x : Setting). DrainedFirst (length x.env.ports) unit time e1 e2 t.holds holds) setting1
      drains in
      let long : length (records_at time e1.world) ≡ n = length-map e1.world.outboxes _ ∙ boxes in
      let grown = arrivals_more inputs round port i r along.order i_here i_open in (
        slice_set inputs port i',
        went_on along (slice_set t.left port b) holds (length-set inputs port i') (units_set inputs port i i' i_here refl)
            (more_read port along.progress_is p' here i_here open_p b left_a time len buf fits pulls more less moved open_p')
            (order_next inputs round port i' along.order (rw i_open (length-append i.records (r ∷ []) ∙ ap (λ m. m + 1) count)))
            (ap length grown ∙ length-append (arrivals_of inputs) (arrival port time (take len buf) ∷ [])
            ∙ omega (arith, along.total, many_more inputs port i r i_here)) (joined along.captures (records_at time e1.world))
            (joined_many along.captures (records_at time e1.world) (along.many ∙ sym long)) (rw grown
            (run_on e0 e e1 e2 port time (take len buf) (arrivals_of inputs) along.captures unit t.holds holds
            (omega (arith, there, many.counted, many.few)) boxes along.run turn all))
            (wrote_more unit time e1.world n along.captures t.held t.holds holds along.many long along.held_many many.holds_many along.wrote all.wrote),
      )

  -- the input ended
  ended_on : {e' : EngineState} {holds : List Device} (state : InputState) → (state ≡ Open → ⊥)
      → b.calls ≤ a.calls + last_pulls state → WhereKnown a.bytes b.bytes (PullsUpTo state a.calls b.calls)
      → WhereKnown a.bytes b.bytes (λ left rest. (bytes : List ℕ) (records : List PacketRecord) → HasRead bytes p.source records left →
      HasReadSo state p'.source records bytes rest)
      → p'.source ≡ over p.source → p'.state ≡ state → e' ≡ e → holds ≡ t.holds
      → (inputs' : List Input) × RunUntil unit e0 e' (after_asking t port b holds) (slice_set progress port p') inputs' round (port + 1)
  ended_on state closed pulls last more moved is e_is holds_is =
      let (i, i_here, i_progress) = input_at port along.progress_is here in
      let count = wanted round port (length i.records) i.state (sym i_progress.state ∙ open_p) (along.order port i i_here) in
      let same = arrivals_ended inputs port i state i_here in
      rw (e_is, holds_is) (
        slice_set inputs port (ended state i),
        went_on along (slice_set t.left port b) t.holds (length-set inputs port (ended state i)) (units_set inputs port i (ended state i) i_here refl)
            (last_read port along.progress_is p' here i_here open_p b left_a state closed pulls last more moved is)
            (order_next inputs round port (ended state i) along.order (closed_due state (length i.records) round closed count))
            (ap length same ∙ along.total ∙ sym (many_ended inputs port i state i_here)) along.captures refl
            (subst (λ l. HasRun e0 e l along.captures) (sym same) along.run) along.wrote,
      )

  -- the run continues, whatever the answer was, if it did not stop
  pub goes_on : {e' : EngineState} {holds : List Device} → Advances port unit e e' p p' a b t.holds holds (Ok tt)
      → (inputs' : List Input) × RunUntil unit e0 e' (after_asking t port b holds) (slice_set progress port p') inputs' round (port + 1)
  goes_on {e' = e'} {holds = holds} step = go step.next step.read step.pulls step.in_range step.moves step.follows
    where
      go : (answer : Result Next PcapError) → ReadsTurn port e step.engine p.source p'.source a.bytes b.bytes answer → HasPulled answer a b
          → IsInRange p.source answer → Moves p.source p'.source answer → Follows port unit step.engine e' p'.state t.holds holds answer (Ok tt)
          → (inputs' : List Input) × RunUntil unit e0 e' (after_asking t port b holds) (slice_set progress port p') inputs' round (port + 1)
      go (Ok (Record time len)) (buf, more, (fits, turn)) (pulls, last) (nano, few, less) moves (open_p', drains) =
          record_on time len buf step.engine e' holds fits pulls more less moves turn open_p' drains
      go (Ok End) (buf, more, same) (pulls, last) range moves (is, ok, e_is, holds_is) =
          ended_on Whole (λ c. cc) pulls (pulls_whole a b last) (known_map a.bytes b.bytes _ _
          (λ left rest now bytes records has. whole_read p.source p'.source records bytes moves (now bytes records has)) more) moves is (e_is ∙ same) holds_is
      go (Ok (next.Cut byte)) (buf, more, same) (pulls, last) range moves (is, ok, e_is, holds_is) =
          ended_on (Cut byte) (λ c. cc) pulls (pulls_cut byte a b last) (known_map a.bytes b.bytes _ _
          (λ left rest now bytes records has. cut_read byte p.source p'.source records bytes moves (now bytes records has)) more) moves is (e_is ∙ same)
          holds_is
      go (Err error) reads pulls range moves (is, bad, e_is, holds_is) = cc

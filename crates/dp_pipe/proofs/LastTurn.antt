-- A turn after which a writer failed: what was written until then, and what is counted.
use Rattle.std.proofs.Common.{◌≡◌, ◌≢◌, ℕ, suc, ◌+◌, ◌<◌, ◌≤◌, ◌⊎◌, inl, inr, Bool, true, false, List, [], ◌∷◌, ◌++◌, length, take, Some, refl}
use Rattle.std.proofs.Common.{sym, ◌∙◌, ap, subst, arith, append-nil, zero-add}
use Rattle.std.specs.Prelude.{slice_get, nat_lt, ◌==◌, if◌then◌else◌}
use Rattle.std.specs.Option.{option_map_or}
use Rattle.std.specs.Io.KnownBytes.{Appends}
use Rattle.std.proofs.lemmas.Bool.{lt-ltb, le-ltb, eq-eqb, ne_eqb, cases_lt}
use Rattle.std.proofs.lemmas.List.{length-append, length-map, map-append, append_assoc, length-set}
use Rattle.std.proofs.lemmas.Option.{slice_get_within}
use Rattle.dp_pcap.specs.declared.time.Time.{Time}
use Rattle.dp_pcap.specs.declared.time.Unit.{Unit as TimeUnit}
use Rattle.dp_pcap.specs.Capture.{PacketRecord}
use Rattle.dp_pcap.specs.Text.{header_text, record_text, text}
use Rattle.dp_model.specs.Machine.{Setting}
use Rattle.dp_model.specs.Runs.{Outcome, Turn, Run, records_at, joined, with_empty_outboxes}
use Rattle.dp_model.specs.Laws.Runs.{with_turn, run_push}
use Rattle.dp_engine.specs.declared.report.Tallies.{Tallies}
use Rattle.dp_engine.specs.Drains.{captured}
use Rattle.dp_engine.specs.Engines.{EngineState, no_tallies, tallies_at, counted_at, sent_at}
use Rattle.dp_engine.specs.Tallies.{counted}
use Rattle.dp_pipe.specs.Devices.{Device, Transfer, IsGiven}
use Rattle.dp_pipe.specs.Forwarding.{Input, FailedAt, capture_at, capture_of, drained_at, records_text, tally_of}
use Rattle.dp_pipe.specs.Headline.{PacketRun, GoesOnBy, WroteFront, capture_text, sent_until}
use Rattle.dp_load.specs.Pipelines.{Plan}
use Rattle.dp_pipe.specs.Running.{HeadersWritten, IsFirst, setting_in, programs_in}
use Rattle.dp_pipe.proofs.Advancing.{joined_here, texts_append}
use Rattle.dp_pipe.proofs.Giving.{given_then}
use Rattle.std.proofs.KnownBytes.{Appends-trans}
use Rattle.dp_model.specs.Laws.Lists.{get_within}
use Rattle.dp_pipe.proofs.Forwarded.{split, tallies_other, tallies_same}
use Rattle.dp_pipe.proofs.Numbers.{IsCounted}
use Rattle.dp_pipe.proofs.PacketRuns.{IsReady, packet_run, ran, run_of, counted_run, rings_there}
use Rattle.dp_load.specs.Laws.{beyond}
use Rattle.dp_pipe.proofs.RunOn.{counted_sent, outcomes_many, shown_in, tally_more, turn_tally}
use Rattle.dp_pipe.proofs.Through.{stays_failed}

-- ---- captures with one more

-- a port's capture in a run and after it
pub capture_joined : (xs ys : List (List (Time × List ℕ))) (q : ℕ) → q < length xs → q < length ys → capture_at (joined xs ys) q ≡ capture_at xs q
    ++ capture_at ys q
capture_joined xs ys q lt lt' =
    let (x, y, was, is, both) = joined_here xs ys q lt lt' in
    ap (λ o. option_map_or capture_of o []) both ∙ map-append captured x y
    ∙ ap (λ o. option_map_or capture_of o [] ++ capture_of y) (sym was) ∙ ap (λ o. capture_at xs q ++ option_map_or capture_of o []) (sym is)

take_after : {A : Type 0} (xs ys : List A) (n : ℕ) → take (length xs + n) (xs ++ ys) ≡ xs ++ take n ys
take_after [] ys n = ap (λ m. take m ys) (zero-add n)
take_after (x ∷ xs) ys n =
    let next : length (x ∷ xs) + n ≡ suc (length xs + n) = omega arith in
    ap (λ m. take m (x ∷ (xs ++ ys))) next ∙ ap (λ l. x ∷ l) (take_after xs ys n)

-- a header, records, and more records
text_more : (unit : TimeUnit) (xs ys : List PacketRecord) → (header_text unit ++ records_text unit xs) ++ records_text unit ys ≡ text unit (xs ++ ys)
text_more unit xs ys = append_assoc (header_text unit) (records_text unit xs) (records_text unit ys)
    ∙ ap (λ l. header_text unit ++ l) (sym (texts_append unit xs ys))

-- ---- what was written

module _ {unit : TimeUnit} {first last : EngineState} {t : Transfer} {inputs : List Input} {port : ℕ} (f : FailedAt unit first last t inputs port)
    (held : List Device) (many : length t.held ≡ length held) (headers : HeadersWritten unit held t.held) (long : length f.captures ≡ length held)
    (new_long : length (records_at f.last.time f.beyond.world) ≡ length held) where
  -- what a writer was given before the last turn: a header, and all that its port had sent
  given_before : (q : ℕ) (old : Device) → slice_get held q ≡ Some old
      → (mid : Device) × (slice_get f.mids q ≡ Some mid) × IsGiven old mid (text unit (capture_at f.captures q))
  given_before q old here =
      let within = slice_get_within held q old here in
      let (h, at_h) = get_within t.held q (omega (arith, within, many)) in
      let (m, at_m) = get_within f.mids q (omega (arith, within, many, f.mids_many)) in
      (m, at_m, given_then old h m (header_text unit) (records_text unit (capture_at f.captures q)) (headers q old h here at_h) (f.wrote q h m at_h at_m))

  abbrev all : List (List (Time × List ℕ))
  all = joined f.captures (records_at f.last.time f.beyond.world)

  both : (q : ℕ) (old : Device) → slice_get held q ≡ Some old → capture_at all q ≡ capture_at f.captures q ++ drained_at f.last.time f.beyond.world q
  both q old here =
      let within = slice_get_within held q old here in
      capture_joined f.captures (records_at f.last.time f.beyond.world) q (omega (arith, within, long)) (omega (arith, within, new_long))

  -- a port before it has written all
  pub given_ahead : (q : ℕ) (old new : Device) → q < port → slice_get held q ≡ Some old → slice_get t.holds q ≡ Some new →
      IsGiven old new (capture_text unit all q)
  given_ahead q old new less here there =
      let (m, at_m, before) = given_before q old here in
      let apart : q ≢ port = λ e. absurd (omega (arith, less, e)) in
      let now = rw (lt-ltb q port less) at (f.stopped.first.wrote q m new at_m (sym (f.stopped.others q apart) ∙ there)) in
      subst (IsGiven old new) (text_more unit (capture_at f.captures q) (drained_at f.last.time f.beyond.world q) ∙ ap (text unit) (sym (both q old here)))
      (given_then old m new (text unit (capture_at f.captures q)) (records_text unit (drained_at f.last.time f.beyond.world q)) before now)

  -- a port after it has written what was sent before
  pub given_after : (q : ℕ) (old new : Device) → port < q → slice_get held q ≡ Some old → slice_get t.holds q ≡ Some new →
      IsGiven old new (capture_text unit f.captures q)
  given_after q old new less here there =
      let (m, at_m, before) = given_before q old here in
      let apart : q ≢ port = λ e. absurd (omega (arith, less, e)) in
      let now = rw (le-ltb q port (omega (arith, less))) at (f.stopped.first.wrote q m new at_m (sym (f.stopped.others q apart) ∙ there)) in
      subst (IsGiven old new) (append-nil (text unit (capture_at f.captures q))) (given_then old m new (text unit (capture_at f.captures q)) [] before now)

  -- its own writer was given whole records, and a part of the next
  pub given_own : (old new : Device) → slice_get held port ≡ Some old → slice_get t.holds port ≡ Some new →
      WroteFront unit (capture_at all port) (length (capture_at f.captures port) + f.stopped.whole) old new
  given_own old new here there =
      let (m, at_m, before) = given_before port old here in
      let own = f.stopped.own m new at_m there in
      let part = own.part in
      let xs = capture_at f.captures port in
      let ys = drained_at f.last.time f.beyond.world port in
      let front = take f.stopped.whole ys in
      let more = take (f.stopped.whole + 1) ys in
      let rest = take part.bytes (record_text unit part.next) in
      let is = both port old here in
      let one_more : length xs + (f.stopped.whole + 1) ≡ length xs + f.stopped.whole + 1 = omega arith in
      let longer : text unit xs ++ records_text unit more ≡ text unit (take (length xs + f.stopped.whole + 1) (capture_at all port)) =
      text_more unit xs more ∙ ap (text unit) (sym (take_after xs ys (f.stopped.whole + 1)) ∙ ap (take (length xs + (f.stopped.whole + 1))) (sym is)
      ∙ ap (λ n. take n (capture_at all port)) one_more) in
      record {
        next = part.next;
        next_is = ap (λ l. slice_get l (length xs + f.stopped.whole)) is ∙ beyond xs ys f.stopped.whole ∙ part.next_is;
        bytes = part.bytes;
        part = part.part;
        wrote = subst (Appends old.bytes new.bytes)
            (sym (append_assoc (text unit xs) (records_text unit front) rest)
            ∙ ap (λ l. l ++ rest) (text_more unit xs front ∙ ap (text unit) (sym (take_after xs ys f.stopped.whole)
            ∙ ap (take (length xs + f.stopped.whole)) (sym is))))
            (Appends-trans old.bytes m.bytes new.bytes (text unit xs) (records_text unit front ++ rest) before.grown part.wrote);
        calls = omega (arith, before.calls, own.calls, ap length longer, length-append (text unit xs) (records_text unit more));
      }

-- ---- what was counted

-- a turn counts its record at its port
turned_tally : (q port : ℕ) (o : Outcome) (tallies : List Tallies) (base : Tallies) (n : ℕ) → port < length tallies →
    tallies_at tallies q ≡ record base { sent = n }
    → tallies_at (counted_at port o tallies) q ≡ record (if port == q then counted o base else base) { sent = n }
turned_tally q port o tallies base n less is = turn_tally q port o tallies less ∙ go (port == q)
  where
    go : (b : Bool) → (if b then counted o (tallies_at tallies q) else tallies_at tallies q) ≡ record (if b then counted o base else base) { sent = n }
    go true = ap (counted o) is ∙ counted_sent o base n
    go false = is

-- the drain of a port counts what it wrote whole
drained_tally : (q port whole : ℕ) (tallies : List Tallies) → port < length tallies
    → tallies_at (sent_at port whole tallies) q ≡ record (tallies_at tallies q) { sent = (tallies_at tallies q).sent + (if q == port then whole else 0) }
drained_tally q port whole tallies less = go (split q port)
  where
    go : (q ≡ port) ⊎ (q ≢ port) → tallies_at (sent_at port whole tallies) q
        ≡ record (tallies_at tallies q) { sent = (tallies_at tallies q).sent + (if q == port then whole else 0) }
    go (inl same) = rw (same, eq-eqb port port refl)
        (tallies_same tallies port (record (tallies_at tallies port) { sent = (tallies_at tallies port).sent + whole }) less)
    go (inr other) =
        let t = tallies_at tallies q in
        rw (ne_eqb q port other) (tallies_other tallies port q (record (tallies_at tallies port) { sent = (tallies_at tallies port).sent + whole }) other
        ∙ ap (λ n. record t { sent = n }) more)
      where
        more : (tallies_at tallies q).sent ≡ (tallies_at tallies q).sent + 0
        more = omega arith

-- how many records a port has written whole
sent_is : (q port own : ℕ) (before all : List (List (Time × List ℕ))) (newest : ℕ) (whole : ℕ) → length (capture_at all q)
    ≡ length (capture_at before q) + newest → own ≡ length (capture_at before port) + whole
    → length (capture_at before q) + (if nat_lt q port then newest else 0) + (if q == port then whole else 0) ≡ sent_until port own all before q
sent_is q port own before all newest whole long mine = go (split q port) (cases_lt q port)
  where
    go : (q ≡ port) ⊎ (q ≢ port) → (q < port) ⊎ (port ≤ q) → length (capture_at before q) + (if nat_lt q port then newest else 0)
        + (if q == port then whole else 0) ≡ sent_until port own all before q
    go (inl same) side =
        let here : length (capture_at before q) ≡ length (capture_at before port) = ap (λ x. length (capture_at before x)) same in
        rw (le-ltb q port (omega (arith, same)), eq-eqb q port same) (omega (arith, here, mine))
    go (inr other) (inl less) = rw (lt-ltb q port less, ne_eqb q port other) (omega (arith, long))
    go (inr other) (inr most) = rw (le-ltb q port most, ne_eqb q port other) (omega arith)

-- ---- the run through the last turn

module _ {p : Plan} {pattern : List ℕ} {first last : EngineState} {unit : TimeUnit} {t : Transfer} {inputs : List Input} {port : ℕ}
    (ready : IsReady p pattern) (is : IsFirst p pattern first) (f : FailedAt unit first last t inputs port) (few_ports : length p.env.ports ≤ 8) where
  engine_setting : f.engine.setting ≡ setting_in p pattern
  engine_setting = ap (λ (e : EngineState). e.setting) f.run.stays ∙ is.setting

  after_setting : f.beyond.setting ≡ setting_in p pattern
  after_setting = ap (λ (e : EngineState). e.setting) f.turn.is ∙ engine_setting

  pub boxes : length f.beyond.world.outboxes ≡ length p.env.ports
  boxes = f.turn.lists ∙ ap (λ (s : Setting). length s.env.ports) after_setting

  pub captures_long : length f.captures ≡ length p.env.ports
  captures_long = f.many ∙ ap (λ (s : Setting). length s.env.ports) is.setting

  pub records_long : length (records_at f.last.time f.beyond.world) ≡ length p.env.ports
  records_long = length-map f.beyond.world.outboxes _ ∙ boxes

  abbrev pub earlier : PacketRun p pattern f.before
  earlier = run_of ready is f.run

  pub turned : Turn (setting_in p pattern) (programs_in p) f.last.port f.last.bytes f.engine.world f.turn.outcome f.turn.runs f.turn.answers f.beyond.world
  turned = rw (engine_setting, ap (λ (e : EngineState). e.nodes) f.run.stays ∙ is.nodes) at f.turn.turn

  pub pushed : Run (setting_in p pattern) (programs_in p) (f.before ++ f.last ∷ []) first.world
      (with_turn f.last.time f.turn.outcome f.turn.answers f.beyond.world (shown_in f.run)) (with_empty_outboxes f.beyond.world)
  pushed = run_push (setting_in p pattern) (programs_in p) f.before f.last first.world f.engine.world f.beyond.world (shown_in f.run)
      f.turn.outcome f.turn.runs f.turn.answers boxes
      (ran is f.run) turned

  abbrev pub through : PacketRun p pattern (f.before ++ f.last ∷ [])
  through = packet_run p pattern (f.before ++ f.last ∷ []) first.world (with_empty_outboxes f.beyond.world) (f.run.answers ++ f.turn.answers) (f.run.outcomes
      ++ f.turn.outcome ∷ [])
      (joined f.captures (records_at f.last.time f.beyond.world)) ready is.start pushed

  pub goes_on_by : GoesOnBy p pattern f.before f.last earlier through
  goes_on_by = record {
    first = refl;
    mid = f.beyond.world;
    outcome = f.turn.outcome;
    runs = f.turn.runs;
    answers = f.turn.answers;
    turn = turned;
    answers_are = refl;
    outcomes_are = refl;
    captures_are = refl;
    last_is = refl;
  }

  abbrev pub own_sent : ℕ
  own_sent = length (capture_at f.captures port) + f.stopped.whole

  counted_one : (q : ℕ) → q < length p.env.ports → tallies_at last.tallies q
      ≡ record (tally_of q (f.before ++ f.last ∷ []) (f.run.outcomes ++ f.turn.outcome ∷ []) no_tallies)
      { sent = sent_until port own_sent through.captures f.captures q }
  counted_one q less =
      let base = tally_of q f.before f.run.outcomes no_tallies in
      let o = f.turn.outcome in
      let after : Tallies = if f.last.port == q then counted o base else base in
      let before = length (capture_at f.captures q) in
      let newest = drained_at f.last.time f.beyond.world q in
      let records = records_at f.last.time f.beyond.world in
      let c = counted_run ready is f.run captures_long in
      let there : f.last.port < length f.engine.tallies = omega (
        arith,
        slice_get_within p.env.ports f.last.port turned.spec turned.spec_is,
        few_ports,
        c.tallies_many,
      ) in
      let t1 : tallies_at f.beyond.tallies q ≡ record after { sent = before } =
      ap (λ (e : EngineState). tallies_at e.tallies q) f.turn.is ∙ turned_tally q f.last.port o f.engine.tallies base before there (c.tallies q less) in
      let inside : q < length f.beyond.setting.env.ports = rw after_setting less in
      let t2 : tallies_at f.stopped.engine.tallies q ≡ record after { sent = before + (if nat_lt q port then length newest else 0) } =
      f.stopped.first.tallies q inside ∙ ap (λ (t : Tallies). record t { sent = t.sent + (if nat_lt q port then length newest else 0) }) t1 in
      let port_in : port < length f.stopped.engine.tallies = omega (
        arith,
        f.stopped.there,
        ap (λ (s : Setting). length s.env.ports) after_setting,
        few_ports,
        f.stopped.first.each,
        many_after,
        c.tallies_many,
      ) in
      let t3 = ap (λ (e : EngineState). tallies_at e.tallies q) f.stopped.is ∙ drained_tally q port f.stopped.whole f.stopped.engine.tallies port_in
      ∙ ap (λ (t : Tallies). record t { sent = t.sent + (if q == port then f.stopped.whole else 0) }) t2 in
      let long : length (capture_at through.captures q) ≡ before + length newest =
      ap length (capture_joined f.captures records q (omega (arith, less, captures_long)) (omega (arith, less, records_long)))
      ∙ length-append (capture_at f.captures q) newest in
      t3 ∙ ap (λ n. record after { sent = n }) (sent_is q port own_sent f.captures through.captures (length newest) f.stopped.whole long refl)
      ∙ ap (λ (t : Tallies). record t { sent = sent_until port own_sent through.captures f.captures q })
      (sym (tally_more q f.before f.run.outcomes f.last o no_tallies (outcomes_many (setting_in p pattern) (programs_in p) f.before first.world f.engine.world
      (shown_in f.run) (ran is f.run))))
    where
      many_after : length f.beyond.tallies ≡ length f.engine.tallies
      many_after = ap (λ (e : EngineState). length e.tallies) f.turn.is
          ∙ length-set f.engine.tallies f.last.port (counted f.turn.outcome (tallies_at f.engine.tallies f.last.port))

  pub counted_failed : IsCounted p pattern (f.before ++ f.last ∷ []) through last (sent_until port own_sent through.captures f.captures)
  counted_failed =
      let stays = stays_failed f in
      record {
        setting = stays.setting ∙ is.setting;
        tallies_many = stays.each ∙ ap length is.tallies;
        tallies = counted_one;
        left = rw (f.stopped.is, f.stopped.first.is, f.turn.is, f.run.stays) is.left;
        rings = rw (f.stopped.is, f.stopped.first.is) refl;
        rings_many = rings_there ready through;
        calls = rw (f.stopped.is, f.stopped.first.is) refl;
        cuts = rw (f.stopped.is, f.stopped.first.is) refl;
      }

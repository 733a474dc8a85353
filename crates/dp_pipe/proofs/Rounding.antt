-- Rounds of a run: each input is read in its turn.
use Rattle.std.proofs.Common.{zero, suc, ◌≡◌, ◌≢◌, ℕ, ◌+◌, ◌-◌, ◌<◌, ◌≤◌, true, List, [], ◌∷◌, length, map, Some, Result, Ok, Err, refl}
use Rattle.std.proofs.Common.{sym, ◌∙◌, ap, subst, arith, ◌⊎◌, inl, inr}
use Rattle.std.specs.Prelude.{slice_get, slice_set, ⊤}
use Rattle.std.proofs.lemmas.Bool.{le-ltb}
use Rattle.std.proofs.lemmas.List.{length-map, map-set}
use Rattle.std.proofs.lemmas.Option.{same_Some, slice_get_within}
use Rattle.dp_model.specs.Laws.Lists.{get_set_other, get_set_same, get_within, set_itself, map_get}
use Rattle.dp_pcap.specs.declared.time.Unit.{Unit as TimeUnit}
use Rattle.dp_pcap.specs.declared.error.PcapError.{PcapError}
use Rattle.dp_pcap.specs.declared.format.TheConstants.{MAX_RECORD}
use Rattle.dp_pcap.specs.declared.source.Next.{Next}
use Rattle.dp_pcap.specs.declared.source.Next.TheVariants.{Record, End}
use Rattle.dp_pcap.specs.declared.source.Next.TheVariants as next
use Rattle.dp_pcap.specs.Source.{IsInRange, Moves}
use Rattle.dp_engine.specs.declared.report.InputState.{InputState}
use Rattle.dp_engine.specs.declared.report.InputState.TheVariants.{Open, Whole, Cut}
use Rattle.dp_engine.specs.Engines.{EngineState}
use Rattle.dp_pipe.specs.declared.forwarding.InputProgress.{InputProgress}
use Rattle.dp_pipe.specs.Devices.{Device, Transfer, transfer}
use Rattle.dp_pipe.specs.declared.forwarding.OpenInputs.{OpenInputs}
use Rattle.dp_pipe.specs.declared.forwarding.OpenInputs.TheVariants.{Zero, One, Several}
use Rattle.dp_pipe.specs.declared.forwarding.RunCause.{RunCause}
use Rattle.dp_pipe.specs.Forwarding.{Input, IsProgressOf, RunUntil, AskedUntil, Advances, Follows, StopsRun, AreRounds, NoneIsOpen}
use Rattle.dp_pipe.specs.Forwarding.{OnlyIsOpen, AreOver, CanAsk}
use Rattle.dp_pipe.proofs.Advancing.{order_ended, order_round}
use Rattle.dp_pipe.proofs.Stepping.{input_at, open_going}
use Rattle.dp_pipe.proofs.Forwarded.{split}
use Rattle.dp_pipe.proofs.GoingOn.{goes_on, many_least, went_on}
use Rattle.dp_pipe.proofs.Reading.{are_read}
use Rattle.dp_pipe.proofs.Stopping.{stops_at, states_same, ran_on}

-- open or ended
pub decide : (state : InputState) → (state ≡ Open) ⊎ (state ≡ Open → ⊥)
decide Open = inl refl
decide Whole = inr (λ e. cc)
decide (Cut byte) = inr (λ e. cc)

module _ {unit : TimeUnit} {e0 e : EngineState} {t : Transfer} {progress : List InputProgress} {inputs : List Input} {round port : ℕ}
    (along : RunUntil unit e0 e t progress inputs round port) {p : InputProgress} (here : slice_get progress port ≡ Some p) (open_p : p.state ≡ Open) where
  abbrev pub i : Input
  i = (input_at port along.progress_is here).0

  i_here : slice_get inputs port ≡ Some i
  i_here = (input_at port along.progress_is here).1

  i_progress : IsProgressOf p i
  i_progress = (input_at port along.progress_is here).2

  pub open_source : (p.source.is_open ≡ true) × (p.source.given ≡ length i.records)
  open_source = open_going i.state p.source (length i.records) (sym i_progress.state ∙ open_p) i_progress.goes_on

  pub few_turns : length progress ≤ 8 → e.turns + 16777216 ≤ 134217728 + p.source.given
  few_turns few =
      let least = many_least inputs port i i_here (λ q j at. small q j at) in
      omega (arith, along.run.turns, along.first, along.total, least, open_source.1, few, along.progress_is.many)
    where
      at_progress : (q : ℕ) (j : Input) → slice_get inputs q ≡ Some j → (x : InputProgress) × (slice_get progress q ≡ Some x)
      at_progress q j at = get_within progress q (omega (arith, slice_get_within inputs q j at, along.progress_is.many))

      small : (q : ℕ) (j : Input) → slice_get inputs q ≡ Some j → length j.records ≤ 16777216
      small q j at = let (x, there) = at_progress q j at in (along.progress_is.each q x j there at).few

module _ {unit : TimeUnit} {e0 e : EngineState} {t : Transfer} {progress : List InputProgress} {inputs : List Input} {round port : ℕ}
    (along : RunUntil unit e0 e t progress inputs round port) where
  -- the same run, where another port comes next
  comes_to : (round' port' : ℕ) → AskedUntil round' port' inputs → RunUntil unit e0 e t progress inputs round' port'
  comes_to round' port' order = went_on along t.left t.holds refl refl along.progress_is order along.total along.captures refl along.run along.wrote

  -- an input that has ended is skipped
  over_on : {p : InputProgress} → slice_get progress port ≡ Some p → (p.state ≡ Open → ⊥) → RunUntil unit e0 e t progress inputs round (port + 1)
  over_on here closed =
      let (i, i_here, is_progress) = input_at port along.progress_is here in
      comes_to round (port + 1) (order_ended inputs round port i i_here (λ e. closed (is_progress.state ∙ e)) along.order)

  -- after all ports the next round begins
  pub round_over : length progress ≤ port → RunUntil unit e0 e t progress inputs (round + 1) 0
  round_over most = comes_to (round + 1) 0 (order_round inputs round port (omega (arith, along.progress_is.many, most)) along.order)

-- every input from one port up to another has ended
abbrev pub AreClosed : ℕ → ℕ → List InputProgress → Type 0
AreClosed port to progress = (q : ℕ) (p : InputProgress) → port ≤ q → q < to → slice_get progress q ≡ Some p → p.state ≡ Open → ⊥

-- which of the first n inputs have not ended
abbrev pub AreOpenBelow : ℕ → OpenInputs → List InputProgress → Type 0
AreOpenBelow n Zero progress = AreClosed 0 n progress
AreOpenBelow n (One port) progress =
    (port < length progress) × ((q : ℕ) (p : InputProgress) → q < n → slice_get progress q ≡ Some p → p.state ≡ Open → q ≡ port)
AreOpenBelow n Several progress = ⊤

-- inputs that have ended are skipped
pub all_over : {unit : TimeUnit} {e0 e : EngineState} {t : Transfer} {progress : List InputProgress} {inputs : List Input} {round : ℕ} (n port to : ℕ)
    → to ≡ port + n → to ≤ length progress → AreClosed port to progress → RunUntil unit e0 e t progress inputs round port →
    RunUntil unit e0 e t progress inputs round to
all_over zero port to is most closed along = let same : to ≡ port = omega (arith, is) in rw same along
all_over {progress = progress} (suc n) port to is most closed along =
    let (p, here) = get_within progress port (omega (arith, is, most)) in
    all_over n (port + 1) to (omega (arith, is)) most (λ q x from below at. closed q x (omega (arith, from)) below at)
    (over_on along here (closed port p (omega arith) (omega (arith, is)) here))

-- where only one input is open, those before it and after it have ended
pub before_alone : (progress : List InputProgress) (port : ℕ) → OnlyIsOpen port progress → AreClosed 0 port progress
before_alone progress port alone q p from below at open_p = let same = alone q p at open_p in omega (arith, below, same)

pub after_alone : (progress : List InputProgress) (port to : ℕ) → OnlyIsOpen port progress → AreClosed (port + 1) to progress
after_alone progress port to alone q p from below at open_p = let same = alone q p at open_p in omega (arith, from, same)

-- the input may change
pub still_alone : (progress : List InputProgress) (port : ℕ) (p' : InputProgress) → OnlyIsOpen port progress → OnlyIsOpen port (slice_set progress port p')
still_alone progress port p' alone q p at open_p = go (split q port)
  where
    go : (q ≡ port) ⊎ (q ≢ port) → q ≡ port
    go (inl same) = same
    go (inr other) = alone q p (sym (get_set_other progress port q p' other) ∙ at) open_p

-- once it has ended, none is open
pub none_alone : (progress : List InputProgress) (port : ℕ) (p p' : InputProgress) → slice_get progress port ≡ Some p → OnlyIsOpen port progress
    → (p'.state ≡ Open → ⊥) → NoneIsOpen (slice_set progress port p')
none_alone progress port p p' here alone closed q x at open_x =
    let same = still_alone progress port p' alone q x at open_x in
    let is : x ≡ p' = same_Some x p' (sym (rw same at at) ∙ get_set_same progress port p' p here) in
    closed (rw is at open_x)

-- how far it is from a number to one that is not below it
pub gap : (a b : ℕ) → a ≤ b → (n : ℕ) × (b ≡ a + n)
gap zero b le = (b, omega arith)
gap (suc a) zero le = absurd (omega (arith, le))
gap (suc a) (suc b) le = let (n, is) = gap a b (omega (arith, le)) in (n, omega (arith, is))

-- A round has reached the input `p` of a port and its reader `r`.
pub record Comes {R W : Type 0} (remaining : R → Device) (contents : W → Device) (unit : TimeUnit) (e0 e : EngineState)
    (olds held : List Device) (ins : List R) (outs : List W) (progress : List InputProgress) (round port : ℕ) (p : InputProgress) (r : R) : Type 0 where
  pub inputs : List Input
  pub along : RunUntil unit e0 e (transfer olds (map remaining ins) held (map contents outs)) progress inputs round port
  pub input : slice_get progress port ≡ Some p
  pub reader : slice_get ins port ≡ Some r
  pub there : port < length e0.setting.env.ports
  pub few : length e0.setting.env.ports ≤ 8
  pub many : length outs ≡ length e0.setting.env.ports
  pub counted : length e0.tallies ≡ 8

module _ {R W : Type 0} {remaining : R → Device} {contents : W → Device} {unit : TimeUnit} {e0 e : EngineState}
    {olds held : List Device} {ins : List R} {outs : List W} {progress : List InputProgress} {round port : ℕ} {p : InputProgress} {r : R}
    (c : Comes remaining contents unit e0 e olds held ins outs progress round port p r) where
  same_ports : length e.setting.env.ports ≡ length e0.setting.env.ports
  same_ports = ap (λ (x : EngineState). length x.setting.env.ports) c.along.run.stays

  -- its input can be asked
  pub can_ask : {buf : ℕ} → length outs ≤ 8 → MAX_RECORD ≤ buf → CanAsk e port p (length outs) buf
  can_ask few buf = record {
    exists = omega (arith, same_ports, c.there);
    places = record { many = c.many ∙ sym same_ports; few = few; counted = c.along.run.each ∙ c.counted; buf = buf };
    opened = λ open_p. (open_source c.along c.input open_p).0;
    limit = λ open_p. few_turns c.along c.input open_p (omega (arith, c.along.progress_is.many, c.along.inputs_many, c.few));
  }

-- the run after it
module _ {R W : Type 0} {remaining : R → Device} {contents : W → Device} {unit : TimeUnit} {e0 e e' : EngineState}
    {olds held : List Device} {ins : List R} {outs outs' : List W} {progress : List InputProgress} {round port : ℕ} {p p' : InputProgress} {r r' : R}
    {answer : Result ⊤ RunCause} (c : Comes remaining contents unit e0 e olds held ins outs progress round port p r)
    (step : p.state ≡ Open → Advances port unit e e' p p' (remaining r) (remaining r') (map contents outs) (map contents outs') answer)
    (over : (p.state ≡ Open → ⊥) → (answer ≡ Ok tt) × (e' ≡ e) × (p' ≡ p) × (r' ≡ r) × (outs' ≡ outs)) where
  answers : (x : Result ⊤ RunCause) → answer ≡ x → p.state ≡ Open →
      Advances port unit e e' p p' (remaining r) (remaining r') (map contents outs) (map contents outs') x
  answers x is open_p =
      subst (λ (y : Result ⊤ RunCause). Advances port unit e e' p p' (remaining r) (remaining r') (map contents outs) (map contents outs') y) is (step open_p)

  -- the call was made, and the run continues
  pub asked_on : answer ≡ Ok tt → (now : List Input) × RunUntil unit e0 e' (transfer olds (map remaining (slice_set ins port r')) held (map contents outs'))
      (slice_set progress port p') now round (port + 1)
  asked_on ok = go (decide p.state)
    where
      go : (p.state ≡ Open) ⊎ (p.state ≡ Open → ⊥) → (now : List Input) × RunUntil unit e0 e' (transfer olds (map remaining (slice_set ins port r')) held
          (map contents outs')) (slice_set progress port p') now round (port + 1)
      go (inl open_p) =
          rw (map-set remaining ins port r') (goes_on c.along
          (record { counted = c.counted; few = c.few; holds_many = length-map outs contents ∙ c.many }) p' c.input open_p c.there (remaining r')
          (map_get remaining ins port r c.reader) (answers (Ok tt) ok open_p))
      go (inr closed) =
          let (is_ok, e_is, p_is, r_is, outs_is) = over closed in
          rw (e_is, p_is, r_is, outs_is, set_itself ins port r c.reader, set_itself progress port p c.input) (
            c.inputs,
            over_on c.along c.input closed,
          )

  -- or it stops
  pub asked_stops : (cause : RunCause) → answer ≡ Err cause →
      StopsRun unit e0 e' (transfer olds (map remaining (slice_set ins port r')) held (map contents outs')) (slice_set progress port p') cause
  asked_stops cause err = go (decide p.state)
    where
      go : (p.state ≡ Open) ⊎ (p.state ≡ Open → ⊥) → StopsRun unit e0 e' (transfer olds (map remaining (slice_set ins port r')) held (map contents outs'))
          (slice_set progress port p') cause
      go (inl open_p) =
          rw (map-set remaining ins port r') (stops_at c.along (length-map outs contents ∙ c.many) p' c.input open_p (remaining r')
          (map_get remaining ins port r c.reader) cause (answers (Err cause) err open_p))
      go (inr closed) = let bad : Err cause ≡ Ok tt = sym err ∙ (over closed).0 in cc

-- a round in which only one input is open: it comes to that input, and ends after it
pub comes_alone : {unit : TimeUnit} {e0 e : EngineState} {t : Transfer} {progress : List InputProgress} {inputs : List Input} {round : ℕ} (port : ℕ)
    → port ≤ length progress → OnlyIsOpen port progress → RunUntil unit e0 e t progress inputs round 0 → RunUntil unit e0 e t progress inputs round port
comes_alone {progress = progress} port there alone along =
    all_over port 0 port (omega arith) there (before_alone progress port alone) along

pub ends_alone : {unit : TimeUnit} {e0 e : EngineState} {t : Transfer} {progress : List InputProgress} {inputs : List Input} {round : ℕ} (port : ℕ)
    → port < length progress → OnlyIsOpen port progress → RunUntil unit e0 e t progress inputs round (port + 1)
    → RunUntil unit e0 e t progress inputs (round + 1) 0
ends_alone {progress = progress} port there alone along =
    let (n, is) = gap (port + 1) (length progress) (omega (arith, there)) in
    round_over (all_over n (port + 1) (length progress) is (omega arith) (after_alone progress port (length progress) alone) along) (omega arith)

all_closed : (progress : List InputProgress) (inputs : List Input) → length progress ≡ length inputs →
    ((q : ℕ) (p : InputProgress) (j : Input) → slice_get progress q ≡ Some p → slice_get inputs q ≡ Some j → p.state ≡ j.state) → NoneIsOpen progress
    → AreOver inputs
all_closed [] [] many same none = tt
all_closed [] (j ∷ inputs) many same none = absurd (omega (arith, many))
all_closed (p ∷ progress) [] many same none = absurd (omega (arith, many))
all_closed (p ∷ progress) (j ∷ inputs) many same none = (
  λ e. none 0 p refl (same 0 p j refl refl ∙ e),
  all_closed progress inputs (omega (arith, many)) (λ q a b c d. same (suc q) a b c d) (λ q a b c. none (suc q) a b c),
)

module _ {unit : TimeUnit} {e0 e : EngineState} {t : Transfer} {progress : List InputProgress} {inputs : List Input} {round port : ℕ}
    (along : RunUntil unit e0 e t progress inputs round port) where
  -- every input has ended: the run went all the way
  pub went_all : NoneIsOpen progress → AreRounds unit e0 e t progress (Ok tt)
  went_all none = (
    inputs,
    states_same along.progress_is,
    ran_on along,
    are_read along.progress_is,
    all_closed progress inputs along.progress_is.many (λ q p j a b. (along.progress_is.each q p j a b).state) none,
  )

-- how many more results an open input may have: its records, and its end
abbrev pub results_of : InputState → ℕ → ℕ
results_of Open given = suc (16777216 - given)
results_of Whole given = 0
results_of (Cut byte) given = 0

abbrev pub results_left : InputProgress → ℕ
results_left p = results_of p.state p.source.given

pub fewer_left : {port : ℕ} {unit : TimeUnit} {e e' : EngineState} {p p' : InputProgress} {old new : Device} {held holds : List Device} → p.state ≡ Open
    → Advances port unit e e' p p' old new held holds (Ok tt) → results_left p' < results_left p
fewer_left {port = port} {unit = unit} {e' = e'} {p = p} {p' = p'} {held = held} {holds = holds} open_p step =
    go step.next step.in_range step.moves step.follows
  where
    go : (x : Result Next PcapError) → IsInRange p.source x → Moves p.source p'.source x → Follows port unit step.engine e' p'.state held holds x (Ok tt)
        → results_left p' < results_left p
    go (Ok (Record time len)) (nano, short, few) moves (open_p', all) = rw (open_p, open_p', moves) (omega (arith, few))
    go (Ok End) range moves (ended, ok, same, kept) = rw (open_p, ended) (omega arith)
    go (Ok (next.Cut byte)) range moves (ended, ok, same, kept) = rw (open_p, ended) (omega arith)
    go (Err error) range moves (open_p', bad, same, kept) = cc

-- no input has enough records to be still open
pub none_left : {unit : TimeUnit} {e0 e : EngineState} {t : Transfer} {progress : List InputProgress} {inputs : List Input} {round : ℕ}
    → RunUntil unit e0 e t progress inputs round 0 → 16777217 ≤ round → NoneIsOpen progress
none_left {round = round} along most q p at open_p =
    let (j, here, is_progress) = input_at q along.progress_is at in
    let given : length j.records ≡ round = rw (sym is_progress.state ∙ open_p, le-ltb q 0 (omega arith)) at (along.order q j here) in
    absurd (omega (arith, is_progress.few, given, most))

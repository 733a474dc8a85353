-- A run continues with one input: its answer, the turn on it, and the drains of all ports.
use Rattle.std.proofs.Common.{◌≡◌, ◌≢◌, ℕ, zero, suc, ◌+◌, ◌<◌, ◌≤◌, Bool, true, false, List, [], ◌∷◌, ◌++◌, length, map, Some}
use Rattle.std.proofs.Common.{refl, sym, ◌∙◌, ap, subst, arith, ◌⊎◌, inl, inr}
use Rattle.std.specs.Prelude.{slice_get, slice_set, nat_lt, flat_map, option_map, if◌then◌else◌}
use Rattle.std.proofs.lemmas.Bool.{lt-ltb, le-ltb, ltb-true, ltb-false}
use Rattle.std.proofs.lemmas.List.{length-map, map-append, append_assoc}
use Rattle.std.proofs.lemmas.Option.{slice_get-map, same_Some, slice_get_within}
use Rattle.dp_pcap.specs.declared.time.Time.{Time}
use Rattle.dp_pcap.specs.declared.time.Unit.{Unit as TimeUnit}
use Rattle.dp_pcap.specs.Capture.{PacketRecord}
use Rattle.dp_pcap.specs.Text.{record_text}
use Rattle.dp_model.specs.Machine.{World}
use Rattle.dp_model.specs.Runs.{records_at, joined, interleaved}
use Rattle.dp_model.specs.Laws.Lists.{get_set_other, get_within, set_itself}
use Rattle.dp_engine.specs.declared.report.InputState.{InputState}
use Rattle.dp_engine.specs.declared.report.InputState.TheVariants.{Open, Whole, Cut}
use Rattle.dp_engine.specs.Drains.{captured}
use Rattle.dp_pipe.specs.Devices.{Device, IsGiven, At}
use Rattle.dp_pipe.specs.Forwarding.{Input, timed_records, arrivals_of, asked, AnswersSo, AskedUntil, capture_of, capture_at, records_text, AreWritten}
use Rattle.dp_pipe.specs.Forwarding.{drained_at}
use Rattle.dp_pipe.proofs.Forwarded.{split}
use Rattle.dp_pipe.proofs.Interleaving.{AreFew, interleaved_more}
use Rattle.dp_pipe.proofs.RunOn.{arrival}
use Rattle.dp_pipe.proofs.Giving.{given_then}

-- ---- what is there, and what is set

pub set_here : {A : Type 0} (xs : List A) (n : ℕ) (x y : A) → slice_get (slice_set xs n x) n ≡ Some y → x ≡ y
set_here [] n x y e = cc
set_here (z ∷ xs) zero x y e = same_Some x y e
set_here (z ∷ xs) (suc n) x y e = set_here xs n x y e

-- ---- what was written

pub joined_here : {A : Type 0} (xs ys : List (List A)) (q : ℕ) → q < length xs → q < length ys → (x : List A) × (y : List A) × (slice_get xs q ≡ Some x)
    × (slice_get ys q ≡ Some y) × (slice_get (joined xs ys) q ≡ Some (x ++ y))
joined_here [] ys q lt lt' = absurd (omega (arith, lt))
joined_here (x ∷ xs) [] q lt lt' = absurd (omega (arith, lt'))
joined_here (x ∷ xs) (y ∷ ys) zero lt lt' = (x, y, refl, refl, refl)
joined_here (x ∷ xs) (y ∷ ys) (suc q) lt lt' = joined_here xs ys q (omega (arith, lt)) (omega (arith, lt'))

pub joined_many : {A : Type 0} (xs ys : List (List A)) → length xs ≡ length ys → length (joined xs ys) ≡ length xs
joined_many [] ys e = refl
joined_many (x ∷ xs) [] e = absurd (omega (arith, e))
joined_many (x ∷ xs) (y ∷ ys) e = ap suc (joined_many xs ys (omega (arith, e)))

pub texts_append : (unit : TimeUnit) (xs ys : List PacketRecord) → flat_map (record_text unit) (xs ++ ys) ≡ flat_map (record_text unit) xs
    ++ flat_map (record_text unit) ys
texts_append unit [] ys = refl
texts_append unit (x ∷ xs) ys = ap (λ l. record_text unit x ++ l) (texts_append unit xs ys)
    ∙ sym (append_assoc (record_text unit x) (flat_map (record_text unit) xs) (flat_map (record_text unit) ys))

-- what the drains of all ports add to what was written
pub wrote_more : (unit : TimeUnit) (time : Time) (w : World) (n : ℕ) (captures : List (List (Time × List ℕ))) (held mids holds : List Device)
    → length captures ≡ n → length (records_at time w) ≡ n → length held ≡ n → length mids ≡ n
    → AreWritten unit held mids (capture_at captures)
    → ((q : ℕ) → At mids holds q (λ old new. IsGiven old new (if nat_lt q n then records_text unit (drained_at time w q) else [])))
    → AreWritten unit held holds (capture_at (joined captures (records_at time w)))
wrote_more unit time w n captures held mids holds long boxes many mid_many before now q old new a b =
    let q_in : q < n = omega (arith, slice_get_within held q old a, many) in
    let (mid, m) = get_within mids q (omega (arith, q_in, mid_many)) in
    let (x, y, was, is, both) = joined_here captures (records_at time w) q (omega (arith, q_in, long)) (omega (arith, q_in, boxes)) in
    let first : IsGiven old mid (records_text unit (capture_of x)) = rw was at (before q old mid a m) in
    let second : IsGiven mid new (records_text unit (capture_of y)) = rw (lt-ltb q n q_in, is) at (now q mid new m b) in
    let all : IsGiven old new (records_text unit (capture_of x) ++ records_text unit (capture_of y)) = given_then old mid new _ _ first second in
    rw both (subst (IsGiven old new) (sym (texts_append unit (capture_of x) (capture_of y)) ∙ ap (records_text unit) (sym (map-append captured x y))) all)

-- ---- what was read

-- a record after those of an input
abbrev pub with_record : PacketRecord → Input → Input
with_record r i = record i { records = i.records ++ r ∷ [] }

abbrev pub ended : InputState → Input → Input
ended state i = record i { state = state }

abbrev timed : PacketRecord → Time × List ℕ
timed r = (r.time, r.bytes)

records_set : (inputs : List Input) (p : ℕ) (i : Input) → map timed_records (slice_set inputs p i) ≡ slice_set (map timed_records inputs) p (timed_records i)
records_set [] p i = refl
records_set (x ∷ inputs) zero i = refl
records_set (x ∷ inputs) (suc p) i = ap (λ l. timed_records x ∷ l) (records_set inputs p i)

-- an input that ended keeps the records
pub arrivals_ended : (inputs : List Input) (p : ℕ) (i : Input) (state : InputState) → slice_get inputs p ≡ Some i →
    arrivals_of (slice_set inputs p (ended state i)) ≡ arrivals_of inputs
arrivals_ended inputs p i state here =
    ap interleaved (records_set inputs p (ended state i) ∙ set_itself (map timed_records inputs) p (timed_records i) (slice_get-map timed_records inputs p
    ∙ ap (option_map timed_records) here))

-- an input that was asked in turn has at most this many records
pub given_few : (round port q : ℕ) (state : InputState) (count : ℕ) → AnswersSo state count (asked round port q) → count ≤ asked round port q
given_few round port q Open count e = omega (arith, e)
given_few round port q Whole count lt = omega (arith, lt)
given_few round port q (Cut byte) count lt = omega (arith, lt)

asked_most : (round port q : ℕ) → asked round port q ≤ round + 1
asked_most round port q = go (nat_lt q port)
  where
    go : (b : Bool) → (if b then round + 1 else round) ≤ round + 1
    go true = omega arith
    go false = omega arith

-- a record of an input is after all others, if no input was asked more often than in turn
pub arrivals_grown : (inputs : List Input) (round p : ℕ) (i : Input) (r : PacketRecord) → slice_get inputs p ≡ Some i → length i.records ≡ round
    → ((q : ℕ) (j : Input) → slice_get inputs q ≡ Some j → length j.records ≤ asked round p q)
    → arrivals_of (slice_set inputs p (with_record r i)) ≡ arrivals_of inputs ++ arrival p r.time r.bytes ∷ []
arrivals_grown inputs round p i r here count least =
    let xs = timed_records i in
    let is : slice_get (map timed_records inputs) p ≡ Some xs = slice_get-map timed_records inputs p ∙ ap (option_map timed_records) here in
    let long : length xs ≡ round = length-map i.records timed ∙ count in
    let more : timed_records (with_record r i) ≡ xs ++ timed r ∷ [] = map-append timed i.records (r ∷ []) in
    let few : AreFew (length xs + 1) (map timed_records inputs) = λ q ys e. few_at q ys e (input_of inputs q ys e) long in
    let beyond : (q : ℕ) (ys : List (Time × List ℕ)) → p < q → slice_get (map timed_records inputs) q ≡ Some ys → length ys ≤ length xs =
    λ q ys lt e. beyond_at q ys lt (input_of inputs q ys e) long in
    ap interleaved (records_set inputs p (with_record r i) ∙ ap (slice_set (map timed_records inputs) p) more)
    ∙ interleaved_more (map timed_records inputs) p xs (timed r) is few beyond
  where
    input_of : (inputs : List Input) (q : ℕ) (ys : List (Time × List ℕ)) → slice_get (map timed_records inputs) q ≡ Some ys →
        (j : Input) × (slice_get inputs q ≡ Some j) × (ys ≡ timed_records j)
    input_of [] q ys e = cc
    input_of (x ∷ inputs) zero ys e = (x, refl, sym (same_Some _ _ e))
    input_of (x ∷ inputs) (suc q) ys e = input_of inputs q ys e

    few_at : (q : ℕ) (ys : List (Time × List ℕ)) → slice_get (map timed_records inputs) q ≡ Some ys →
        ((j : Input) × (slice_get inputs q ≡ Some j) × (ys ≡ timed_records j)) → length (timed_records i) ≡ round → length ys ≤ length (timed_records i) + 1
    few_at q ys e (j, at, is) long = omega (arith, ap length is, length-map j.records timed, least q j at, asked_most round p q, long)

    beyond_at : (q : ℕ) (ys : List (Time × List ℕ)) → p < q → ((j : Input) × (slice_get inputs q ≡ Some j) × (ys ≡ timed_records j)) →
        length (timed_records i) ≡ round → length ys ≤ length (timed_records i)
    beyond_at q ys lt (j, at, is) long =
        let none : asked round p q ≡ round = ap (λ b. if b then round + 1 else round) (le-ltb q p (omega (arith, lt))) in
        omega (arith, ap length is, length-map j.records timed, least q j at, none, long)

-- a record of the input that comes next is after all others
pub arrivals_more : (inputs : List Input) (round p : ℕ) (i : Input) (r : PacketRecord) → AskedUntil round p inputs → slice_get inputs p ≡ Some i →
    i.state ≡ Open
    → arrivals_of (slice_set inputs p (with_record r i)) ≡ arrivals_of inputs ++ arrival p r.time r.bytes ∷ []
arrivals_more inputs round p i r order here goes =
    let count : length i.records ≡ round = rw (goes, le-ltb p p (omega arith)) at (order p i here) in
    arrivals_grown inputs round p i r here count (λ q j at. given_few round p q j.state (length j.records) (order q j at))

-- ---- the order

pub asked_next : (round port q : ℕ) → q ≢ port → asked round (port + 1) q ≡ asked round port q
asked_next round port q d = ap (λ b. if b then round + 1 else round) (below_next q port d)
  where
    below_next : (q n : ℕ) → q ≢ n → nat_lt q (n + 1) ≡ nat_lt q n
    below_next q n d = go (nat_lt q n) refl
      where
        go : (b : Bool) → nat_lt q n ≡ b → nat_lt q (n + 1) ≡ nat_lt q n
        go true e = let lt = ltb-true q n e in lt-ltb q (n + 1) (omega (arith, lt)) ∙ sym e
        go false e = let le = ltb-false q n e in le-ltb q (n + 1) (omega (arith, le, d)) ∙ sym e

-- the input that was asked answered, and the next one comes
pub order_next : (inputs : List Input) (round port : ℕ) (i : Input) → AskedUntil round port inputs → AnswersSo i.state (length i.records) (round + 1) →
    AskedUntil round (port + 1) (slice_set inputs port i)
order_next inputs round port i order answers q j at = go (split q port)
  where
    go : (q ≡ port) ⊎ (q ≢ port) → AnswersSo j.state (length j.records) (asked round (port + 1) q)
    go (inl same) =
        let is : i ≡ j = set_here inputs port i j (rw same at at) in
        rw (lt-ltb q (port + 1) (omega (arith, same)), ← is) answers
    go (inr other) =
        let was : slice_get inputs q ≡ Some j = sym (get_set_other inputs port q i other) ∙ at in
        rw (asked_next round port q other) (order q j was)

-- after all ports the next round begins
pub order_round : (inputs : List Input) (round n : ℕ) → length inputs ≤ n → AskedUntil round n inputs → AskedUntil (round + 1) 0 inputs
order_round inputs round n many order q i at =
    rw (le-ltb q 0 (omega arith)) (rw (lt-ltb q n (omega (arith, slice_get_within inputs q i at, many))) at (order q i at))

-- an input that has ended would give no record the next time
pub more_due : (state : InputState) (count due : ℕ) → (state ≡ Open → ⊥) → AnswersSo state count due → AnswersSo state count (due + 1)
more_due Open count due over e = absurd (over refl)
more_due Whole count due over lt = omega (arith, lt)
more_due (Cut byte) count due over lt = omega (arith, lt)

-- an input that has ended is not asked
pub order_ended : (inputs : List Input) (round port : ℕ) (i : Input) → slice_get inputs port ≡ Some i → (i.state ≡ Open → ⊥) → AskedUntil round port inputs →
    AskedUntil round (port + 1) inputs
order_ended inputs round port i here over order q j at = go (split q port)
  where
    go : (q ≡ port) ⊎ (q ≢ port) → AnswersSo j.state (length j.records) (asked round (port + 1) q)
    go (inl same) =
        let is : i ≡ j = same_Some i j (sym here ∙ rw same at at) in
        let due : AnswersSo i.state (length i.records) round = rw (le-ltb port port (omega arith)) at (order port i here) in
        rw (lt-ltb q (port + 1) (omega (arith, same)), ← is) (more_due i.state (length i.records) round over due)
    go (inr other) = rw (asked_next round port q other) (order q j at)

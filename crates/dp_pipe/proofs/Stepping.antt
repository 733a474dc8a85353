-- An input is read, and the run continues.
use Rattle.std.proofs.Common.{◌≡◌, ◌≢◌, ℕ, ◌<◌, true, List, [], ◌∷◌, ◌++◌, ◌+◌, ◌≤◌, length, length-take-le, take, Option, Some, None, refl, sym, ◌∙◌, ap}
use Rattle.std.proofs.Common.{arith, ◌⊎◌, inl, inr, Ok, Err}
use Rattle.std.specs.Prelude.{slice_get, slice_set}
use Rattle.std.proofs.lemmas.List.{append_assoc, length-append, length-set}
use Rattle.std.proofs.lemmas.Option.{slice_get_within}
use Rattle.dp_pcap.specs.declared.error.PcapError.{PcapError}
use Rattle.dp_pcap.specs.declared.error.PcapError.TheVariants.{BadMagic, BadVersion, BadLink, BadTime, TooLong, ShortHeader, TooMany, Read}
use Rattle.dp_pcap.specs.declared.source.Next.TheVariants.{End}
use Rattle.dp_pcap.specs.declared.source.Next.TheVariants as next
use Rattle.dp_pcap.specs.declared.time.Time.{Time}
use Rattle.dp_pcap.specs.SourceState.{SourceState}
use Rattle.dp_pcap.specs.Capture.{PacketRecord}
use Rattle.dp_pcap.specs.Source.{WhereKnown, HasRead, PullsFor, advanced, over, pulls_of}
use Rattle.dp_pcap.specs.Text.{text}
use Rattle.dp_model.specs.Laws.Lists.{get_set_other, get_within}
use Rattle.dp_engine.specs.declared.report.InputState.{InputState}
use Rattle.dp_engine.specs.declared.report.InputState.TheVariants.{Open, Whole, Cut}
use Rattle.dp_pipe.specs.declared.forwarding.InputProgress.{InputProgress}
use Rattle.dp_pipe.specs.Devices.{Device}
use Rattle.dp_pipe.specs.Forwarding.{Input, HasReadSo, IsReadBy, IsGoingOn, IsProgressOf, AreProgressOf, PullsUpTo, LastPulls, end_pulls, last_pulls}
use Rattle.dp_pipe.proofs.Giving.{known_map, length_more}
use Rattle.dp_pipe.proofs.Forwarded.{split}
use Rattle.dp_pipe.proofs.Advancing.{with_record, ended, set_here}

-- ---- inputs and the sources that read them

-- the input of a progress
pub input_at : {olds news : List Device} {progress : List InputProgress} {inputs : List Input} {p : InputProgress} (q : ℕ) →
    AreProgressOf olds news progress inputs → slice_get progress q ≡ Some p → (i : Input) × (slice_get inputs q ≡ Some i) × IsProgressOf p i
input_at {progress = progress} {inputs = inputs} {p = p} q progress_is at =
    let (i, here) = get_within inputs q (omega (arith, slice_get_within progress q p at, progress_is.many)) in
    (i, here, progress_is.each q p i at here)

-- one input, its source and what its reader has left have changed
pub all_progress : {olds news : List Device} {progress : List InputProgress} {inputs : List Input} {p' : InputProgress} {i' : Input} (n : ℕ) (b : Device)
    → AreProgressOf olds news progress inputs → IsProgressOf p' i' → ((old : Device) → slice_get olds n ≡ Some old → IsReadBy i' p'.source old b)
    → AreProgressOf olds (slice_set news n b) (slice_set progress n p') (slice_set inputs n i')
all_progress {olds = olds} {news = news} {progress = progress} {inputs = inputs} {p' = p'} {i' = i'} n b progress_is is_progress read = record {
  many = length-set progress n p' ∙ progress_is.many ∙ sym (length-set inputs n i');
  each = λ q p i a c. each q p i a c (split q n);
  read = λ q p i a c old new d e. reads q p i old new a c d e (split q n);
}
  where
    each : (q : ℕ) (p : InputProgress) (i : Input) → slice_get (slice_set progress n p') q ≡ Some p → slice_get (slice_set inputs n i') q ≡ Some i →
        (q ≡ n) ⊎ (q ≢ n) → IsProgressOf p i
    each q p i a c (inl same) =
        let x = set_here progress n p' p (rw same at a) in
        let y = set_here inputs n i' i (rw same at c) in
        rw (← x, ← y) is_progress
    each q p i a c (inr other) = progress_is.each q p i (sym (get_set_other progress n q p' other) ∙ a) (sym (get_set_other inputs n q i' other) ∙ c)

    reads : (q : ℕ) (p : InputProgress) (i : Input) (old new : Device) → slice_get (slice_set progress n p') q ≡ Some p →
        slice_get (slice_set inputs n i') q ≡ Some i → slice_get olds q ≡ Some old → slice_get (slice_set news n b) q ≡ Some new
        → (q ≡ n) ⊎ (q ≢ n) → IsReadBy i p.source old new
    reads q p i old new a c d e (inl same) =
        let x = set_here progress n p' p (rw same at a) in
        let y = set_here inputs n i' i (rw same at c) in
        let z = set_here news n b new (rw same at e) in
        rw (← x, ← y, ← z) (read old (rw same at d))
    reads q p i old new a c d e (inr other) =
        progress_is.read q p i (sym (get_set_other progress n q p' other) ∙ a) (sym (get_set_other inputs n q i' other)
        ∙ c) old new d (sym (get_set_other news n q b other) ∙ e)

-- facts of the known bytes, one after the other
pub known_then : (old mid new : Option (List ℕ)) (P Q R : List ℕ → List ℕ → Type 0) →
    ((bytes left rest : List ℕ) → P bytes left → Q left rest → R bytes rest) → WhereKnown old mid P → WhereKnown mid new Q → WhereKnown old new R
known_then None mid new P Q R f p q = tt
known_then (Some x) None new P Q R f p q = absurd p
known_then (Some x) (Some y) None P Q R f p q = absurd q
known_then (Some x) (Some y) (Some z) P Q R f p q = f x y z p q

-- what was read of an input that is open
pub open_read : (state : InputState) (s : SourceState) (records : List PacketRecord) (bytes rest : List ℕ) → state ≡ Open →
    HasReadSo state s records bytes rest → HasRead bytes s records rest
open_read Open s records bytes rest e has = has
open_read Whole s records bytes rest e has = cc
open_read (Cut byte) s records bytes rest e has = cc

pub open_going : (state : InputState) (s : SourceState) (count : ℕ) → state ≡ Open → IsGoingOn state s count → (s.is_open ≡ true) × (s.given ≡ count)
open_going Open s count e on = on
open_going Whole s count e on = cc
open_going (Cut byte) s count e on = cc

-- calls for one record more
pub calls_more : (i : Input) (time : Time) (len : ℕ) (buf : List ℕ) (a b c : ℕ) → i.state ≡ Open → len ≤ length buf
    → b ≤ a + length (text i.unit i.records) + last_pulls i.state → c ≤ b + (16 + len)
    → c ≤ a + length (text i.unit (i.records ++ record { time = time; bytes = take len buf } ∷ [])) + last_pulls i.state
calls_more i time len buf a b c is fits before now =
    omega (
      arith,
      before,
      now,
      length_more i.unit i.records (record { time = time; bytes = take len buf }),
      length-take-le len buf fits,
    )

-- the input was open until its end was found
pub calls_ended : (i : Input) (a b c more : ℕ) → i.state ≡ Open → b ≤ a + length (text i.unit i.records) + last_pulls i.state → c ≤ b + more
    → c ≤ a + length (text i.unit i.records) + more
calls_ended i a b c more is before now = let none : last_pulls i.state ≡ 0 = rw is refl in omega (arith, before, now, none)

-- ---- calls for bytes that came in pieces

-- two pieces, one after the other
both_came : (bytes left rest first more : List ℕ) → bytes ≡ first ++ left → left ≡ more ++ rest → bytes ≡ (first ++ more) ++ rest
both_came bytes left rest first more those these = those ∙ ap (λ l. first ++ l) these ∙ sym (append_assoc first more rest)

pulls_join : (i : Input) (state : InputState) (old a b : ℕ) (bytes left rest : List ℕ) → i.state ≡ Open → PullsUpTo i.state old a bytes left
    → PullsUpTo state a b left rest → PullsUpTo state old b bytes rest
pulls_join i state old a b bytes left rest is (first, those, few) (more, these, last) =
    let none : end_pulls i.state ≡ 0 = rw is refl in
    (first ++ more, both_came bytes left rest first more those these, omega (arith, few, last, none, length-append first more))

-- the input was open until its end was found
pub pulls_ended : (i : Input) (state : InputState) (old a b : Device) → i.state ≡ Open
    → WhereKnown old.bytes a.bytes (PullsUpTo i.state old.calls a.calls) → WhereKnown a.bytes b.bytes (PullsUpTo state a.calls b.calls)
    → WhereKnown old.bytes b.bytes (PullsUpTo state old.calls b.calls)
pulls_ended i state old a b is =
    known_then old.bytes a.bytes b.bytes (PullsUpTo i.state old.calls a.calls) (PullsUpTo state a.calls b.calls) (PullsUpTo state old.calls b.calls)
    (λ bytes left rest before now. pulls_join i state old.calls a.calls b.calls bytes left rest is before now)

-- more bytes before a fault take one more call each
pulls_beyond : (error : PcapError) (m n : ℕ) → pulls_of (Err error) (m + n) ≡ m + pulls_of (Err error) n
pulls_beyond BadMagic m n = refl
pulls_beyond BadVersion m n = refl
pulls_beyond BadLink m n = refl
pulls_beyond BadTime m n = refl
pulls_beyond TooLong m n = refl
pulls_beyond ShortHeader m n = refl
pulls_beyond TooMany m n = omega arith
pulls_beyond Read m n = omega arith
pulls_beyond error m n = refl

pulls_to : (i : Input) (error : PcapError) (old a b : ℕ) (bytes left rest : List ℕ) → i.state ≡ Open → PullsUpTo i.state old a bytes left
    → PullsFor (Err error) a b left rest → PullsFor (Err error) old b bytes rest
pulls_to i error old a b bytes left rest is (first, those, few) (more, these, last) =
    let none : end_pulls i.state ≡ 0 = rw is refl in
    let long : pulls_of (Err error) (length (first ++ more)) ≡ length first + pulls_of (Err error) (length more) =
    ap (λ n. pulls_of (Err error) n) (length-append first more) ∙ pulls_beyond error (length first) (length more) in
    (first ++ more, both_came bytes left rest first more those these, omega (arith, few, last, none, long))

-- or until its fault
pub pulls_failed : (i : Input) (error : PcapError) (old a b : Device) → i.state ≡ Open
    → WhereKnown old.bytes a.bytes (PullsUpTo i.state old.calls a.calls) → LastPulls (Err error) a b
    → WhereKnown old.bytes b.bytes (PullsFor (Err error) old.calls b.calls)
pulls_failed i error old a b is =
    known_then old.bytes a.bytes b.bytes (PullsUpTo i.state old.calls a.calls) (PullsFor (Err error) a.calls b.calls)
    (PullsFor (Err error) old.calls b.calls)
    (λ bytes left rest before now. pulls_to i error old.calls a.calls b.calls bytes left rest is before now)

-- the last calls of an input that is whole or cut
pub pulls_whole : (a b : Device) → LastPulls (Ok End) a b → WhereKnown a.bytes b.bytes (PullsUpTo Whole a.calls b.calls)
pulls_whole a b = known_map a.bytes b.bytes (PullsFor (Ok End) a.calls b.calls) (PullsUpTo Whole a.calls b.calls) (λ left rest now. now)

pub pulls_cut : (byte : ℕ) (a b : Device) → LastPulls (Ok (next.Cut byte)) a b → WhereKnown a.bytes b.bytes (PullsUpTo (Cut byte) a.calls b.calls)
pulls_cut byte a b = known_map a.bytes b.bytes (PullsFor (Ok (next.Cut byte)) a.calls b.calls) (PullsUpTo (Cut byte) a.calls b.calls) (λ left rest now. now)

-- ---- progress

-- after a record
pub progress_more : (p p' : InputProgress) (i : Input) (time : Time) (len : ℕ) (buf : List ℕ) → IsProgressOf p i → p.state ≡ Open → p'.state ≡ Open →
    p'.source ≡ advanced p.source len → p.source.given < 16777216
    → IsProgressOf p' (with_record (record { time = time; bytes = take len buf }) i)
progress_more p p' i time len buf is_progress was is moved less =
    let state : i.state ≡ Open = sym is_progress.state ∙ was in
    let (on, given) = open_going i.state p.source (length i.records) state is_progress.goes_on in
    let more = length-append i.records (record { time = time; bytes = take len buf } ∷ []) in
    record {
      unit = ap (λ (s : SourceState). s.unit) moved ∙ is_progress.unit;
      state = is ∙ sym state;
      goes_on = rw (state, moved) (on, omega (arith, given, more));
      few = omega (arith, given, more, less);
    }

-- after the last
pub progress_ended : (p p' : InputProgress) (i : Input) (state : InputState) → IsProgressOf p i → p'.state ≡ state → p'.source ≡ over p.source →
    (state ≡ Open → ⊥) → IsProgressOf p' (ended state i)
progress_ended p p' i state is_progress is moved closed = record {
  unit = ap (λ (s : SourceState). s.unit) moved ∙ is_progress.unit;
  state = is;
  goes_on = none state closed;
  few = is_progress.few;
}
  where
    none : (state : InputState) → (state ≡ Open → ⊥) → IsGoingOn state p'.source (length i.records)
    none Open closed = absurd (closed refl)
    none Whole closed = tt
    none (Cut byte) closed = tt

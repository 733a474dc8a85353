-- What was read of all inputs, after one more answer of the reader of one: a record, the end, or a fault.
use Rattle.std.proofs.Common.{◌≡◌, ◌≢◌, ℕ, ◌+◌, ◌<◌, ◌≤◌, List, length, take, Some, Ok, Err, sym, ◌∙◌, subst, arith}
use Rattle.std.specs.Prelude.{slice_get, slice_set}
use Rattle.std.proofs.lemmas.Option.{slice_get_within}
use Rattle.dp_model.specs.Laws.Lists.{get_set_other, get_within}
use Rattle.dp_pcap.specs.declared.error.PcapError.{PcapError}
use Rattle.dp_pcap.specs.declared.error.PcapError.TheVariants.{BadMagic, BadVersion, BadLink, BadTime, TooLong, ShortHeader, TooMany, Read}
use Rattle.dp_pcap.specs.declared.source.Next.TheVariants.{Record}
use Rattle.dp_pcap.specs.declared.time.Time.{Time}
use Rattle.dp_pcap.specs.declared.time.Unit.{Unit as TimeUnit}
use Rattle.dp_pcap.specs.Capture.{PacketRecord}
use Rattle.dp_pcap.specs.Source.{WhereKnown, HasRead, Continues, ReadsOn, advanced, max_pulls, over}
use Rattle.dp_pcap.specs.SourceState.{SourceState}
use Rattle.dp_engine.specs.declared.report.InputState.{InputState}
use Rattle.dp_engine.specs.declared.report.InputState.TheVariants.{Open}
use Rattle.dp_pipe.specs.declared.forwarding.InputProgress.{InputProgress}
use Rattle.dp_pipe.specs.Devices.{Device, At}
use Rattle.dp_pipe.specs.Forwarding.{Input, AreProgressOf, AreRead, HasPulled, HasReadSo, IsProgressOf, IsRead, IsReadTo, PullsUpTo, Refuses, last_pulls}
use Rattle.dp_pipe.proofs.Advancing.{with_record, ended, set_here}
use Rattle.dp_pipe.proofs.Giving.{read_as, read_open}
use Rattle.dp_pipe.proofs.Stepping.{all_progress, calls_ended, calls_more, known_then, open_read, progress_more, progress_ended, pulls_ended, pulls_failed}

progress_at : (progress : List InputProgress) (inputs : List Input) (q : ℕ) (i : Input) → length progress ≡ length inputs → slice_get inputs q ≡ Some i →
    (p : InputProgress) × (slice_get progress q ≡ Some p)
progress_at progress inputs q i many at = get_within progress q (omega (arith, slice_get_within inputs q i at, many))

pub are_read : {olds news : List Device} {progress : List InputProgress} {inputs : List Input} → AreProgressOf olds news progress inputs →
    AreRead olds news inputs
are_read {progress = progress} {inputs = inputs} progress_is q i at old new a b =
    let (p, here) = progress_at progress inputs q i progress_is.many at in
    read_as i p.source old new (progress_is.each q p i here at).unit (progress_is.read q p i here at old new a b)

-- a fault takes no more calls than the largest record
pulls_most : (error : PcapError) → max_pulls (Err error) ≤ 262160
pulls_most BadMagic = omega arith
pulls_most BadVersion = omega arith
pulls_most BadLink = omega arith
pulls_most BadTime = omega arith
pulls_most TooLong = omega arith
pulls_most ShortHeader = omega arith
pulls_most TooMany = omega arith
pulls_most Read = omega arith
pulls_most error = omega arith

-- what a fault says about the bytes
refuses_of : (error : PcapError) (s s' : SourceState) (unit : TimeUnit) (records : List PacketRecord) (bytes rest buf : List ℕ) → s.unit ≡ unit →
    ReadsOn bytes records s s' rest buf (Err error) → Refuses unit records error bytes rest
refuses_of BadMagic s s' unit records bytes rest buf same has = rw (← same) has
refuses_of BadVersion s s' unit records bytes rest buf same has = rw (← same) has
refuses_of BadLink s s' unit records bytes rest buf same has = rw (← same) has
refuses_of BadTime s s' unit records bytes rest buf same has = rw (← same) has
refuses_of TooLong s s' unit records bytes rest buf same has = rw (← same) has
refuses_of ShortHeader s s' unit records bytes rest buf same has = rw (← same) has
refuses_of TooMany s s' unit records bytes rest buf same has = rw (← same) has
refuses_of Read s s' unit records bytes rest buf same has = (s, same, has)
refuses_of error s s' unit records bytes rest buf same has = rw (← same) has

-- an open input, and what its reader had left and has left now
module _ {olds news : List Device} {progress : List InputProgress} {inputs : List Input} (port : ℕ)
    (progress_is : AreProgressOf olds news progress inputs) {p : InputProgress} (p' : InputProgress) {i : Input} (here : slice_get progress port ≡ Some p)
    (i_here : slice_get inputs port ≡ Some i) (open_p : p.state ≡ Open) {a : Device} (b : Device) (left_a : slice_get news port ≡ Some a) where
  i_progress : IsProgressOf p i
  i_progress = progress_is.each port p i here i_here

  i_open : i.state ≡ Open
  i_open = sym i_progress.state ∙ open_p

  -- a record
  pub more_read : (time : Time) (len : ℕ) (buf : List ℕ) → len ≤ length buf → b.calls ≤ a.calls + (16 + len)
      → WhereKnown a.bytes b.bytes (λ left rest. Continues p.source p'.source left rest buf (Ok (Record time len))) → p.source.given < 16777216
      → p'.source ≡ advanced p.source len → p'.state ≡ Open → AreProgressOf olds (slice_set news port b) (slice_set progress port p')
      (slice_set inputs port (with_record (record { time = time; bytes = take len buf }) i))
  more_read time len buf fits pulls more less moved is =
      all_progress port b progress_is (progress_more p p' i time len buf i_progress open_p is moved less) (λ old at.
      let was = progress_is.read port p i here i_here old a at left_a in
      read_open (with_record (record { time = time; bytes = take len buf }) i) p'.source old b i_open
      (known_then old.bytes a.bytes b.bytes _ _ _ (λ bytes left rest before now. rw i_open
      (now bytes i.records (open_read i.state p.source i.records bytes left i_open before))) was.has more)
      (calls_more i time len buf old.calls a.calls b.calls i_open fits was.calls pulls))

  -- the end
  pub last_read : (state : InputState) → (state ≡ Open → ⊥) → b.calls ≤ a.calls + last_pulls state
      → WhereKnown a.bytes b.bytes (PullsUpTo state a.calls b.calls)
      → WhereKnown a.bytes b.bytes (λ left rest. (bytes : List ℕ) (records : List PacketRecord) → HasRead bytes p.source records left →
      HasReadSo state p'.source records bytes rest)
      → p'.source ≡ over p.source → p'.state ≡ state
      → AreProgressOf olds (slice_set news port b) (slice_set progress port p') (slice_set inputs port (ended state i))
  last_read state closed pulls last more moved is =
      all_progress port b progress_is (progress_ended p p' i state i_progress is moved closed) (λ old at.
      let was = progress_is.read port p i here i_here old a at left_a in
      record {
        has = known_then old.bytes a.bytes b.bytes _ _ _
            (λ bytes left rest before now. now bytes i.records (open_read i.state p.source i.records bytes left i_open before)) was.has more;
        calls = calls_ended i old.calls a.calls b.calls (last_pulls state) i_open was.calls pulls;
        pulls = pulls_ended i state old a b i_open was.pulls last;
      })

  -- a fault
  pub fault_read : (error : PcapError) (buf : List ℕ) → HasPulled (Err error) a b
      → WhereKnown a.bytes b.bytes (λ left rest. Continues p.source p'.source left rest buf (Err error))
      → At olds (slice_set news port b) port (IsReadTo i error)
  fault_read error buf (pulls, last) more old new at c =
      let was = progress_is.read port p i here i_here old a at left_a in
      subst (IsReadTo i error old) (set_here news port b new c) (record {
        refuses = known_then old.bytes a.bytes b.bytes _ _ _ (λ bytes left rest before now.
            refuses_of error p.source p'.source i.unit i.records bytes rest buf i_progress.unit
            (now bytes i.records (open_read i.state p.source i.records bytes left i_open before))) was.has more;
        calls = calls_ended i old.calls a.calls b.calls 262160 i_open was.calls (omega (arith, pulls, pulls_most error));
        pulls = pulls_failed i error old a b i_open was.pulls last;
      })

  -- and no other reader was called
  pub others_read : (q : ℕ) (j : Input) → q ≢ port → slice_get inputs q ≡ Some j → At olds (slice_set news port b) q (IsRead j)
  others_read q j other at old new x y = are_read progress_is q j at old new x (sym (get_set_other news port q b other) ∙ y)

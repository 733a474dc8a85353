-- A record that was read, and the turn with its bytes.
use Rattle.std.proofs.Common.{◌≡◌, ◌≤◌, ℕ, Bool, true, false, List, length, take, drop, Option, refl, sym, ◌∙◌, ap, subst, arith}
use Rattle.std.proofs.Common.{length-drop, length-take-le, take_all}
use Rattle.std.specs.Prelude.{Ok, Result}
use Rattle.dp_pcap.specs.declared.time.Time.{Time}
use Rattle.dp_pcap.specs.declared.error.PcapError.{PcapError}
use Rattle.dp_pcap.specs.declared.source.Next.{Next}
use Rattle.dp_pcap.specs.declared.source.Next.TheVariants.{Record}
use Rattle.dp_pcap.specs.SourceState.{SourceState}
use Rattle.dp_pcap.specs.declared.format.TheConstants.{MAX_RECORD}
use Rattle.dp_pcap.specs.Source.{WhereKnown, Continues, IsHeld, IsInRange, body_in}
use Rattle.dp_engine.specs.declared.engine.Turn.{Turn}
use Rattle.dp_engine.specs.Engines.{EngineState, TakesTurn}
use Rattle.dp_engine.specs.Outcomes.{outcome_of}
use Rattle.dp_engine.specs.Watching.{Event, WatchesTurn}
use Rattle.dp_pipe.specs.Forwarding.{HasTurn}
use Rattle.dp_pipe.specs.Tracing.{Note, Came, Ended, TracesRead}
use Rattle.dp_pipe.specs.Watched.{unnoted, ShowsNext}

-- the turn of a record with these bytes was shown
abbrev pub TracesAt : {V : Type 0} → (V → Event → V → Type 0) → (V → Note → V → Type 0) → V → V → ℕ → Time → EngineState → EngineState →
    List ℕ → Type 0
TracesAt sees noted v v' port time e e' bytes = (r : TracesRead sees noted v v' port time e e') × (r.bytes ≡ bytes)

module _ {V : Type 0} {sees : V → Event → V → Type 0} {v v' : V} {port : ℕ} {e e' : EngineState} {bytes : List ℕ} {taken : Turn}
    (took : TakesTurn e e' port bytes taken)
    (watched : WatchesTurn sees v v' e.setting e.nodes port bytes e.world (outcome_of taken.outcome) taken.runs e'.world) where
  -- a turn was taken
  pub turned : HasTurn port e e' bytes
  turned = record {
    outcome = outcome_of taken.outcome;
    runs = taken.runs;
    answers = took.turn.0;
    turn = took.turn.1;
    is = took.rest;
    lists = took.lists;
  }

  -- and shown, between two reports
  pub traced : {noted : V → Note → V → Type 0} {first last : V} (time : Time) → noted first (Came port time (length bytes)) v
      → noted v' (Ended taken e'.world) last → TracesAt sees noted first last port time e e' bytes
  traced time came ended = (
    record {
      bytes = bytes;
      traces = record {
        before = v;
        came = came;
        turn = taken;
        after = v';
        watched = watched;
        took = took.took;
        ended = ended;
      };
      setting = ap (λ (x : EngineState). x.setting) took.rest;
      nodes = ap (λ (x : EngineState). x.nodes) took.rest;
      turns = ap (λ (x : EngineState). x.turns) took.rest;
    },
    refl,
  )

-- from what the reader has buffered
pub lent : {V : Type 0} (sees : V → Event → V → Type 0) (v v' : V) (port : ℕ) (e e' : EngineState) (s s' : SourceState)
    (a b : Option (List ℕ)) (held bytes : List ℕ) (time : Time) (len : ℕ) → IsHeld s held time len
    → WhereKnown a b (λ left rest. Continues s s' left rest (body_in held len) (Ok (Record time len))) → bytes ≡ body_in held len →
    HasTurn port e e' bytes → TracesAt sees unnoted v v' port time e e' bytes → ShowsNext sees v v' port e e' s s' a b (Ok (Record time len))
lent sees v v' port e e' s s' a b held bytes time len is more those took shown =
    let long : length (body_in held len) ≡ len = length-take-le len (drop 16 held) (omega (arith, is.whole, length-drop 16 held)) in
    let same : take len (body_in held len) ≡ body_in held len = take_all len (body_in held len) (omega (arith, long)) in
    let (turn, bytes_are) = subst (TracesAt sees unnoted v v' port time e e') (those ∙ sym same) shown in (
      (body_in held len, more, (omega (arith, long), subst (HasTurn port e e') (those ∙ sym same) took)),
      (omega (arith, long), turn, bytes_are),
    )

-- a record that was read has room in any buffer for the largest one
pub has_room : (s : SourceState) (answer : Result Next PcapError) (time : Time) (len room : ℕ) → answer ≡ Ok (Record time len) → IsInRange s answer
    → MAX_RECORD ≤ room → len ≤ room
has_room s answer time len room is within large =
    let (nano, short, few) = subst (IsInRange s) is within in omega (arith, short, large)

-- from the buffer into which it was read
pub copied : {V : Type 0} (sees : V → Event → V → Type 0) (v v' : V) (port : ℕ) (e e' : EngineState) (s s' : SourceState) (a b : Option (List ℕ))
    (buf : List ℕ) (time : Time) (len : ℕ) → WhereKnown a b (λ left rest. Continues s s' left rest buf (Ok (Record time len))) → len ≤ length buf
    → HasTurn port e e' (take len buf) → TracesAt sees unnoted v v' port time e e' (take len buf)
    → ShowsNext sees v v' port e e' s s' a b (Ok (Record time len))
copied sees v v' port e e' s s' a b buf time len more fits took (turn, bytes_are) = ((buf, more, (fits, took)), (fits, turn, bytes_are))

-- a record is buffered or was copied
pub not_both : (b : Bool) → b ≡ false → b ≡ true → ⊥
not_both b is_no is_yes = cc

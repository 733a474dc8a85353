-- What the loops of runs and of traces keep, from their start to where they have come.
use Rattle.std.proofs.Common.{◌≡◌, ℕ, ◌+◌, Bool, false, List, Option, length, map}
use Rattle.dp_pcap.specs.declared.time.Unit.{Unit as TimeUnit}
use Rattle.dp_engine.specs.Engines.{EngineState}
use Rattle.dp_engine.specs.Watching.{Event}
use Rattle.dp_pipe.specs.declared.forwarding.InputProgress.{InputProgress}
use Rattle.dp_pipe.specs.declared.tracing.Traced.{Traced}
use Rattle.dp_pipe.specs.Devices.{Device, seen, transfer, AllSound, AllFared}
use Rattle.dp_pipe.specs.Forwarding.{Input, RunUntil}
use Rattle.dp_pipe.specs.Tracing.{Note, TracesUntil}
use Rattle.dp_pipe.specs.Watched.{ShowsUntil}

module _ {V R W : Type 0} (sees : V → Event → V → Type 0) (left : R → Option (List ℕ)) (reads : R → ℕ) (broken_reader : R → Bool) (failed_reads : R → ℕ)
    (holds : W → Option (List ℕ)) (writes : W → ℕ) (broken_writer : W → Bool) (failed_writes : W → ℕ) (unit : TimeUnit) (e e' : EngineState)
    (progress progress' : List InputProgress) (had_ins new_ins : List R) (had_outs new_outs : List W) (had_buf new_buf : List ℕ) (v v' : V) where
  -- a run that had come to one port in a round has come to another
  abbrev pub GoesOn : ℕ → ℕ → ℕ → ℕ → Type 0
  GoesOn round port round' port' = (e0 : EngineState) (had held : List Device) (read : List Input)
      → RunUntil unit e0 e (transfer had (map (seen left reads) had_ins) held (map (seen holds writes) had_outs)) progress read round port
      → (now : List Input) × RunUntil unit e0 e' (transfer had (map (seen left reads) new_ins) held (map (seen holds writes) new_outs)) progress' now
      round' port'

  -- and so has what was shown of it
  abbrev pub ShownOn : ℕ → ℕ → ℕ → ℕ → Type 0
  ShownOn round port round' port' = (v0 : V) (e0 : EngineState) (had : List Device)
      → ShowsUntil sees v0 v e0 e had (map (seen left reads) had_ins) progress round port
      → ShowsUntil sees v0 v' e0 e' had (map (seen left reads) new_ins) progress' round' port'

  -- what a loop of a run keeps; it says from which rounds and ports to which
  abbrev pub KeepsRun : ((ℕ → ℕ → ℕ → ℕ → Type 0) → Type 0) → Type 0
  KeepsRun from_to = record {
    inputs : length progress' ≡ length progress;
    ins : length new_ins ≡ length had_ins;
    outs : length new_outs ≡ length had_outs;
    buf : length new_buf ≡ length had_buf;
    goes : from_to GoesOn;
    readers : AllFared broken_reader failed_reads (λ q. false) had_ins new_ins;
    writers : AllSound broken_writer had_outs → AllFared broken_writer failed_writes (λ q. false) had_outs new_outs;
    shown : from_to ShownOn;
  }

module _ {V R : Type 0} (sees : V → Event → V → Type 0) (noted : V → Note → V → Type 0) (left : R → Option (List ℕ)) (reads : R → ℕ)
    (broken_reader : R → Bool) (failed_reads : R → ℕ) (e e' : EngineState) (progress progress' : List InputProgress) (had_ins new_ins : List R)
    (had_buf new_buf : List ℕ) (which which' : Traced) (v v' : V) where
  -- a trace that had come to one port in a round has come to another
  abbrev pub TracedOn : ℕ → ℕ → ℕ → ℕ → Type 0
  TracedOn round port round' port' = (v0 : V) (e0 : EngineState) (most : ℕ) (had : List Device)
      → TracesUntil sees noted v0 v which.port most e0 e had (map (seen left reads) had_ins) progress round port which.records
      → TracesUntil sees noted v0 v' which.port most e0 e' had (map (seen left reads) new_ins) progress' round' port' which'.records

  -- what a loop of a trace keeps
  abbrev pub KeepsTrace : ((ℕ → ℕ → ℕ → ℕ → Type 0) → Type 0) → Type 0
  KeepsTrace from_to = record {
    inputs : length progress' ≡ length progress;
    ins : length new_ins ≡ length had_ins;
    buf : length new_buf ≡ length had_buf;
    only : which'.port ≡ which.port;
    turns : e'.turns + which'.records ≡ e.turns + which.records;
    setting : e'.setting ≡ e.setting;
    goes : from_to TracedOn;
    readers : AllFared broken_reader failed_reads (λ q. false) had_ins new_ins;
  }

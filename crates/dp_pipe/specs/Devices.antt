-- Readers and writers: what a run sees of them, what each was given, and which of them fail.
use Rattle.std.specs.Prelude.{◌≡◌, ◌≢◌, ℕ, ◌+◌, ◌≤◌, ◌==◌, ◌||◌, if◌then◌else◌, Bool, false, List, length, map, slice_get, Option, Some, Result, Ok, Err}
use Rattle.std.specs.List.{AllByRecursion}
use Rattle.std.specs.Io.KnownBytes.{Appends}
use Rattle.dp_pcap.specs.Text.{AppendsPart}
use Rattle.dp_pcap.specs.declared.error.PcapError.TheVariants.{Read}
use Rattle.dp_pipe.specs.declared.forwarding.RunCause.{RunCause}
use Rattle.dp_pipe.specs.declared.forwarding.RunCause.TheVariants.{In, Out}

-- ---- what a run sees of them

-- a reader or a writer: the bytes that it has left, or that it holds, where they are known, and the number of its calls
pub record Device : Type 0 where
  pub bytes : Option (List ℕ)
  pub calls : ℕ

abbrev pub seen : {D : Type 0} → (D → Option (List ℕ)) → (D → ℕ) → D → Device
seen bytes calls d = record { bytes = bytes d; calls = calls d }

-- what contracts see of a kind of readers or writers: those bytes, how many calls there were, whether it is broken, and how many calls failed
pub record Kind (D : Type 0) : Type 0 where
  pub bytes : D → Option (List ℕ)
  pub calls : D → ℕ
  pub is_broken : D → Bool
  pub failures : D → ℕ

abbrev pub kind : {D : Type 0} → (D → Option (List ℕ)) → (D → ℕ) → (D → Bool) → (D → ℕ) → Kind D
kind bytes calls is_broken failures = record { bytes = bytes; calls = calls; is_broken = is_broken; failures = failures }

-- what a run sees of a list of them
abbrev pub devices : {D : Type 0} → Kind D → List D → List Device
devices of ds = map (seen of.bytes of.calls) ds

-- the devices of a run, one for each port: what each reader had and has left, and what each writer held and holds
pub record Transfer : Type 0 where
  pub had : List Device
  pub left : List Device
  pub held : List Device
  pub holds : List Device

abbrev pub transfer : List Device → List Device → List Device → List Device → Transfer
transfer had left held holds = record { had = had; left = left; held = held; holds = holds }

-- a writer was given these bytes, with at most one call for each
pub record IsGiven (old new : Device) (bytes : List ℕ) : Type 0 where
  pub grown : Appends old.bytes new.bytes bytes
  pub calls : new.calls ≤ old.calls + length bytes

-- a writer failed inside these bytes: it was given a proper prefix of them
pub record IsGivenPart (old new : Device) (bytes : List ℕ) : Type 0 where
  pub grown : AppendsPart old.bytes new.bytes bytes
  pub calls : new.calls ≤ old.calls + length bytes

-- this holds of the device of a port, before and after
abbrev pub At : List Device → List Device → ℕ → (Device → Device → Type 0) → Type 0
At olds news port P = (old new : Device) → slice_get olds port ≡ Some old → slice_get news port ≡ Some new → P old new

-- ---- which one failed

-- whether a result is that the reader of a port failed, and whether it is that its writer did
abbrev pub failed_reader : {A : Type 0} → Result A RunCause → ℕ → Bool
failed_reader (Err (In port Read)) q = q == port
failed_reader answer q = false

abbrev pub failed_writer : {A : Type 0} → Result A RunCause → ℕ → Bool
failed_writer (Err (Out port)) q = q == port
failed_writer answer q = false

-- whether drains stopped at the writer of a port
abbrev pub failed_drain : {A : Type 0} → Result A ℕ → ℕ → Bool
failed_drain (Ok done) q = false
failed_drain (Err port) q = q == port

-- ---- what became of each

-- no device of a list is broken
abbrev pub AllSound : {D : Type 0} → (D → Bool) → List D → Type 0
AllSound is_broken devices = AllByRecursion (λ d. is_broken d ≡ false) devices

-- A device after its calls: it is broken if it was before or failed now. One of its calls failed if it failed now, else none.
pub record Fared {D : Type 0} (is_broken : D → Bool) (failures : D → ℕ) (failed : Bool) (old new : D) : Type 0 where
  pub broken : is_broken new ≡ (failed || is_broken old)
  pub count : failures new ≡ failures old + (if failed then 1 else 0)

-- each device of a list after its calls: those at these indexes failed, and no others
abbrev pub AllFared : {D : Type 0} → (D → Bool) → (D → ℕ) → (ℕ → Bool) → List D → List D → Type 0
AllFared {D} is_broken failures failed olds news =
    (q : ℕ) (old new : D) → slice_get olds q ≡ Some old → slice_get news q ≡ Some new → Fared is_broken failures (failed q) old new

-- the device of a port after its calls, where no other device failed
pub record FaredAlone {D : Type 0} (is_broken : D → Bool) (failures : D → ℕ) (failed : ℕ → Bool) (port : ℕ) (old new : D) : Type 0 where
  pub own : Fared is_broken failures (failed port) old new
  pub others : (q : ℕ) → q ≢ port → failed q ≡ false

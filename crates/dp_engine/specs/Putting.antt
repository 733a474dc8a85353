-- Internal: the effect on a writer of writing the record of a packet.
use Rattle.std.specs.Prelude.{◌≡◌, ℕ, ◌+◌, ◌≤◌, ◌↔◌, Bool, List, length, Option, Result, OnOk, OnErr, IfErr, IsErr, IsTrue}
use Rattle.std.specs.Io.KnownBytes.{Appends}
use Rattle.dp_pcap.specs.declared.error.PcapError.{PcapError}
use Rattle.dp_pcap.specs.declared.error.PcapError.TheVariants.{Write}
use Rattle.dp_pcap.specs.declared.time.Time.{Time}
use Rattle.dp_pcap.specs.declared.time.Unit.{Unit as TimeUnit}
use Rattle.dp_pcap.specs.Text.{AppendsPart, failed_pushes}
use Rattle.dp_model.specs.Stores.{Store, Of}
use Rattle.dp_engine.specs.Drains.{record_of}

-- The record of a packet went to a writer, from `old` to `new`: whole, or a part until the writer failed.
pub record PutsRecord {W : Type 0} (contents : W → Option (List ℕ)) (is_broken : W → Bool) (calls failed_calls : W →
    ℕ) (unit : TimeUnit) (time : Time) (store : Store) (packet : ℕ) (old new : W) (answer : Result (Unit {0}) PcapError) : Type 0 where
  pub ok : OnOk answer (Of store packet (λ k. Appends (contents old) (contents new) (record_of unit time store.buffers k)))
  pub err : OnErr answer (Of store packet (λ k. AppendsPart (contents old) (contents new) (record_of unit time store.buffers k)))
  pub failed : IsErr answer ↔ IsTrue (is_broken new)
  pub stays : IsTrue (is_broken old) → IsTrue (is_broken new)
  pub write : IfErr answer (λ e. e ≡ Write)
  pub counted : Of store packet (λ k. calls new ≤ calls old + length (record_of unit time store.buffers k))
  pub failures : failed_calls new ≡ failed_calls old + failed_pushes answer

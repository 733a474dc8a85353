use Rattle.std.proofs.Common.{◌≡◌, ◌+◌, ◌≤◌, ◌++◌, false, length, take}
use Rattle.std.specs.List.{flat_map}
use Rattle.std.specs.Io.KnownBytes.{Appends}
use Rattle.dp_pcap.specs.Text.{head_text}
use Rattle.dp_model.specs.Packets.{packet_bytes, segment_bytes}
use Rattle.dp_model.specs.Stores.{Of}
use Rattle.dp_engine.proofs.put.put_segments.Given as goal

abbrev pub invariant-loop-index : goal.invariant-loop-index
invariant-loop-index g l = record {
  wrote : Of l.mbufs.store l.packet (λ k. Appends (g.W.Sink.contents l.fn.w) (g.W.Sink.contents l.w)
      (head_text l.fn.unit l.fn.time (length (packet_bytes l.mbufs.store.buffers k)) ++ flat_map (segment_bytes l.mbufs.store.buffers) (take l.index k)));
  sound : g.W.Sink.is_broken l.w ≡ false;
  failures : g.W.Sink.failures l.w ≡ g.W.Sink.failures l.fn.w;
  counted : Of l.mbufs.store l.packet (λ k. g.W.Sink.calls l.w ≤ g.W.Sink.calls l.fn.w
      + length (head_text l.fn.unit l.fn.time (length (packet_bytes l.mbufs.store.buffers k)) ++ flat_map (segment_bytes l.mbufs.store.buffers)
      (take l.index k)));
}

use Rattle.std.proofs.Common.{◌≡◌, ◌*◌, ◌≤◌, length, take}
use Rattle.std.specs.List.{flat_map}
use Rattle.dp_model.specs.Buffers.{overwritten}
use Rattle.dp_model.specs.Packets.{segment_bytes}
use Rattle.dp_model.specs.Stores.{Of}
use Rattle.dp_engine.proofs.copying.copy_packet.Given as goal

abbrev pub invariant-loop-index : goal.invariant-loop-index
invariant-loop-index l = record {
  short : l.length ≤ l.index * 4096;
  long : Of l.mbufs.store l.packet (λ k. l.length ≡ length (flat_map (segment_bytes l.mbufs.store.buffers) (take l.index k)));
  copied : Of l.mbufs.store l.packet (λ k. l.bytes ≡ overwritten l.fn.bytes l.fn.from (flat_map (segment_bytes l.mbufs.store.buffers) (take l.index k)));
  many : length l.bytes ≡ length l.fn.bytes;
}

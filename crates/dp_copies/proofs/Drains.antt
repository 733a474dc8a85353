-- What the drains of the ports write.
use Rattle.std.proofs.Common.{◌≡◌, ℕ, List, [], ◌∷◌, ◌++◌, map, refl, ◌∙◌, ap}
use Rattle.std.specs.List.{AllByRecursion}
use Rattle.dp_model.specs.declared.env.PoolSpec.{PoolSpec}
use Rattle.dp_model.specs.Buffers.{Buffers}
use Rattle.dp_model.specs.Packets.{Segment, Packet, segment_bytes, Lies, packet_bytes}
use Rattle.dp_model.specs.Machine.{segments_listed, Setting, World}
use Rattle.dp_model.specs.CopyMachine.{Copy, copy_bytes}
use Rattle.dp_model.specs.Copies.{copy_of}
use Rattle.dp_model.specs.Runs.{between, with_empty_outboxes}
use Rattle.dp_model.specs.Laws.Lists.{all_left, all_join}
use Rattle.dp_model.specs.Laws.Within.{IsInside}

-- a copy has the bytes of its packet
bytes_copied : (pools : List PoolSpec) (buffers : Buffers) (k : Packet) → copy_bytes (copy_of pools buffers k) ≡ packet_bytes buffers k
bytes_copied pools buffers [] = refl
bytes_copied pools buffers (s ∷ k) = ap (λ bytes. segment_bytes buffers s ++ bytes) (bytes_copied pools buffers k)

module _ {T : Type 0} (time : T) (pools : List PoolSpec) (buffers : Buffers) where
  -- a record
  abbrev timed : List ℕ → T × List ℕ
  timed bytes = (time, bytes)

  -- the records of a transmit list
  list_records : (packets : List Packet) → map (λ (k : Copy). timed (copy_bytes k)) (map (copy_of pools buffers) packets)
      ≡ map (λ (bytes : List ℕ). timed bytes) (map (packet_bytes buffers) packets)
  list_records [] = refl
  list_records (k ∷ packets) =
      ap (λ bytes. timed bytes ∷ map (λ (k : Copy). timed (copy_bytes k)) (map (copy_of pools buffers) packets)) (bytes_copied pools buffers k)
      ∙ ap (λ rest. timed (packet_bytes buffers k) ∷ rest) (list_records packets)

  -- the records of all transmit lists
  pub lists_records : (lists : List (List Packet)) → map (map (λ (k : Copy). timed (copy_bytes k))) (map (map (copy_of pools buffers)) lists)
      ≡ map (λ packets. map (λ (bytes : List ℕ). timed bytes) (map (packet_bytes buffers) packets)) lists
  lists_records [] = refl
  lists_records (packets ∷ lists) =
      ap (λ x. x ∷ map (map (λ (k : Copy). timed (copy_bytes k))) (map (map (copy_of pools buffers)) lists)) (list_records packets)
      ∙ ap (λ rest. map (λ (bytes : List ℕ). timed bytes) (map (packet_bytes buffers) packets) ∷ rest) (lists_records lists)

-- empty lists have no segment
none_listed : (P : Segment → Type 0) (lists : List (List Packet)) → AllByRecursion P (segments_listed (map (λ _. []) lists))
none_listed P [] = tt
none_listed P (l ∷ lists) = none_listed P lists

-- what remains lies within the buffers
pub drained_inside : (c : Setting) (w : World) → IsInside c (between w) → IsInside c (between (with_empty_outboxes w))
drained_inside c w well =
    record {
      rooms = well.rooms;
      bytes = well.bytes;
      lie = all_join (Lies c.env.pools) (segments_listed w.rings) (segments_listed (map (λ _. []) w.outboxes))
          (all_left (Lies c.env.pools) (segments_listed w.rings) (segments_listed w.outboxes) well.lie) (none_listed (Lies c.env.pools) w.outboxes);
    }

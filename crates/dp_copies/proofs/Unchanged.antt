-- Packets whose buffers are the same have the same copies.
use Rattle.std.proofs.Common.{◌≡◌, ◌+◌, ◌-◌, ◌≤◌, List, [], ◌∷◌, map, Option, Some, None, refl, ◌∙◌, ap, arith}
use Rattle.std.specs.Prelude.{slice_range, flat_map, option_map}
use Rattle.dp_model.specs.declared.env.PoolSpec.{PoolSpec}
use Rattle.dp_model.specs.Environments.{room_at}
use Rattle.dp_model.specs.Buffers.{Number, Buffers, bytes_of}
use Rattle.dp_model.specs.Packets.{Segment, Packet, refs}
use Rattle.dp_model.specs.Machine.{segments_held, segments_listed}
use Rattle.dp_model.specs.Copies.{piece_of, copy_of}
use Rattle.dp_model.specs.Laws.References.{refs-append, refs-cons, refs_first}

module _ (pools : List PoolSpec) (old new : Buffers) where
  -- the buffers of these segments are the same
  unfoldable pub Same : List Segment → Type 0
  Same segments = (b : Number) → 1 ≤ refs segments b → bytes_of new b ≡ bytes_of old b

  -- one packet
  pub copy_same : (k : Packet) → Same k → copy_of pools new k ≡ copy_of pools old k
  unfolding Same
  copy_same [] same = refl
  copy_same (s ∷ rest) same =
      let e : piece_of pools new s ≡ piece_of pools old s =
      ap (λ bytes. record {
        before = s.offset;
        bytes = slice_range bytes s.offset (s.offset + s.len);
        beyond = room_at pools s.buffer.pool - s.offset - s.len;
      }) (same s.buffer (refs_first s rest)) in
      ap (λ x. x ∷ copy_of pools new rest) e ∙ ap (λ x. piece_of pools old s ∷ x) (copy_same rest (λ b one. same b (omega (arith, one, refs-cons s rest b))))

  -- registers
  pub held_same : (packets : List (Option Packet)) → Same (segments_held packets) → map (option_map (copy_of pools new)) packets
      ≡ map (option_map (copy_of pools old)) packets
  unfolding Same
  held_same [] same = refl
  held_same (None ∷ packets) same = ap (λ x. None ∷ x) (held_same packets same)
  held_same (Some k ∷ packets) same =
      ap (λ x. Some x ∷ map (option_map (copy_of pools new)) packets) (copy_same k
      (λ b one. same b (omega (arith, one, refs-append k (segments_held packets) b))))
      ∙ ap (λ x. Some (copy_of pools old k) ∷ x) (held_same packets (λ b one. same b (omega (arith, one, refs-append k (segments_held packets) b))))

  -- a list of packets
  pub list_same : (packets : List Packet) → Same (flat_map (λ k. k) packets) → map (copy_of pools new) packets ≡ map (copy_of pools old) packets
  unfolding Same
  list_same [] same = refl
  list_same (k ∷ packets) same =
      ap (λ x. x ∷ map (copy_of pools new) packets) (copy_same k (λ b one. same b (omega (arith, one, refs-append k (flat_map (λ k. k) packets) b))))
      ∙ ap (λ x. copy_of pools old k ∷ x) (list_same packets (λ b one. same b (omega (arith, one, refs-append k (flat_map (λ k. k) packets) b))))

  -- lists of packets: rings, or transmit lists
  pub listed_same : (lists : List (List Packet)) → Same (segments_listed lists) → map (map (copy_of pools new)) lists ≡ map (map (copy_of pools old)) lists
  unfolding Same
  listed_same [] same = refl
  listed_same (l ∷ lists) same =
      ap (λ x. x ∷ map (map (copy_of pools new)) lists) (list_same l (λ b one.
      same b (omega (arith, one, refs-append (flat_map (λ k. k) l) (segments_listed lists) b))))
      ∙ ap (λ x. map (copy_of pools old) l ∷ x) (listed_same lists (λ b one.
      same b (omega (arith, one, refs-append (flat_map (λ k. k) l) (segments_listed lists) b))))

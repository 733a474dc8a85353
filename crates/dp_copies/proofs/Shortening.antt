-- A packet that loses bytes at its front or end: so does its copy.
use Rattle.std.proofs.Common.{◌≡◌, ℕ, ◌+◌, ◌-◌, ◌≤◌, List, [], ◌∷◌, refl, ◌∙◌, ap, arith, take, sym}
use Rattle.std.specs.List.{AllByRecursion}
use Rattle.dp_model.specs.declared.env.PoolSpec.{PoolSpec}
use Rattle.dp_model.specs.Environments.{room_at}
use Rattle.dp_model.specs.Buffers.{Buffers, bytes_of}
use Rattle.dp_model.specs.Packets.{Packet, segment_bytes, first_len, last_len, at_front, at_end, less_before, less_after}
use Rattle.dp_model.specs.CopyMachine.{without_front, without_back}
use Rattle.dp_model.specs.Copies.{piece_of, copy_of}
use Rattle.dp_copies.proofs.Parts.{range_drop, range_take}
use Rattle.dp_copies.proofs.Lengths.{length_segment, IsThere}

module _ (pools : List PoolSpec) (buffers : Buffers) where
  -- adj
  pub adj_copy : (k : Packet) (n : ℕ) → n ≤ first_len k → AllByRecursion (IsThere pools buffers) k → copy_of pools buffers (at_front (less_before n) k)
      ≡ at_front (without_front n) (copy_of pools buffers k)
  adj_copy [] n le all = refl
  adj_copy (s ∷ rest) n le all =
      let bytes = range_drop (bytes_of buffers s.buffer) s.offset s.len n le all.0.1 in
      let beyond : room_at pools s.buffer.pool - (s.offset + n) - (s.len - n) ≡ room_at pools s.buffer.pool - s.offset - s.len = omega (arith, le, all.0.0) in
      λ i. record { before = s.offset + n; bytes = bytes i; beyond = beyond i } ∷ copy_of pools buffers rest

  -- trim
  pub trim_copy : (k : Packet) (n : ℕ) → n ≤ last_len k → AllByRecursion (IsThere pools buffers) k → copy_of pools buffers (at_end (less_after n) k)
      ≡ at_end (without_back n) (copy_of pools buffers k)
  trim_copy [] n le all = refl
  trim_copy (s ∷ []) n le all =
      let old = segment_bytes buffers s in
      let bytes = range_take (bytes_of buffers s.buffer) s.offset s.len n le all.0.1
      ∙ ap (λ m. take (m - n) old) (sym (length_segment pools buffers s all.0.1)) in
      let beyond : room_at pools s.buffer.pool - s.offset - (s.len - n) ≡ room_at pools s.buffer.pool - s.offset - s.len + n = omega (arith, le, all.0.0) in
      λ i. record { before = s.offset; bytes = bytes i; beyond = beyond i } ∷ []
  trim_copy (s ∷ t ∷ rest) n le all = ap (λ c. piece_of pools buffers s ∷ c) (trim_copy (t ∷ rest) n le all.1)

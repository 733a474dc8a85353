-- A copy has the rooms and lengths of its packet.
use Rattle.std.proofs.Common.{◌≡◌, ℕ, ◌+◌, ◌-◌, ◌≤◌, List, [], ◌∷◌, length, drop, refl, arith, length-take, length-drop}
use Rattle.std.specs.List.{AllByRecursion}
use Rattle.dp_model.specs.declared.env.PoolSpec.{PoolSpec}
use Rattle.dp_model.specs.Environments.{room_at}
use Rattle.dp_model.specs.Buffers.{Buffers, bytes_of}
use Rattle.dp_model.specs.Packets.{Segment, Packet, segment_bytes, first_len, Lies, IsWithin, headroom, tailroom, last_len}
use Rattle.dp_model.specs.Machine.{State, live, Holds, Setting}
use Rattle.dp_model.specs.Copies.{copy_of}
use Rattle.dp_model.specs.CopyMachine.{first_piece, last_piece}
use Rattle.dp_model.specs.Laws.Within.{IsInside, inside_held}

-- a segment within its buffer has its length
pub length_segment : (pools : List PoolSpec) (buffers : Buffers) (s : Segment) → s.offset + s.len ≤ length (bytes_of buffers s.buffer) →
    length (segment_bytes buffers s) ≡ s.len
length_segment pools buffers s h = omega (
  arith,
  h,
  length-take (s.offset + s.len - s.offset) (drop s.offset (bytes_of buffers s.buffer)),
  length-drop s.offset (bytes_of buffers s.buffer),
)

module _ (pools : List PoolSpec) (buffers : Buffers) where
  -- the segment's bytes all exist
  abbrev pub IsThere : Segment → Type 0
  IsThere s = (s.offset + s.len ≤ room_at pools s.buffer.pool) × (s.offset + s.len ≤ length (bytes_of buffers s.buffer))

  -- the headroom
  pub first_before : (k : Packet) → (first_piece (copy_of pools buffers k)).before ≡ headroom k
  first_before [] = refl
  first_before (s ∷ rest) = refl

  -- the first length
  pub first_length : (k : Packet) → AllByRecursion IsThere k → length (first_piece (copy_of pools buffers k)).bytes ≡ first_len k
  first_length [] all = refl
  first_length (s ∷ rest) all = length_segment pools buffers s all.0.1

  -- the tailroom
  pub last_after : (k : Packet) → (last_piece (copy_of pools buffers k)).beyond ≡ tailroom pools k
  last_after [] = refl
  last_after (s ∷ []) = refl
  last_after (s ∷ t ∷ rest) = last_after (t ∷ rest)

  -- the last length
  pub last_length : (k : Packet) → AllByRecursion IsThere k → length (last_piece (copy_of pools buffers k)).bytes ≡ last_len k
  last_length [] all = refl
  last_length (s ∷ []) all = length_segment pools buffers s all.0.1
  last_length (s ∷ t ∷ rest) all = last_length (t ∷ rest) all.1

-- all bytes of a packet within the buffers exist
there_all : (pools : List PoolSpec) (buffers : Buffers) (segments : List Segment) (k : Packet) → IsWithin pools buffers segments →
    AllByRecursion (Lies pools) k → AllByRecursion (IsThere pools buffers) k
there_all pools buffers segments [] well all = tt
there_all pools buffers segments (s ∷ k) well all =
    ((all.0.fits, omega (arith, all.0.fits, well.rooms s.buffer all.0.number)), there_all pools buffers segments k well all.1)

-- so do those of each register's packet
pub there : (c : Setting) (st : State) (p : ℕ) (k : Packet) → IsInside c st → Holds st p k → AllByRecursion (IsThere c.env.pools st.world.buffers) k
there c st p k well holds = there_all c.env.pools st.world.buffers (live st) k well (inside_held c st p k well holds)

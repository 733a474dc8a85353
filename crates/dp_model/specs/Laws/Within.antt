-- Internal: segments that lie within their buffers.
use Rattle.std.proofs.Common.{◌≡◌, ℕ, zero, suc, ◌+◌, ◌-◌, ◌<◌, ◌≤◌, List, [], ◌∷◌, ◌++◌, length, Option, Some, None, sym, ap, subst, arith, ◌*◌, ◌/◌, max, map}
use Rattle.std.specs.Prelude.{slice_get}
use Rattle.std.specs.List.{AllByRecursion}
use Rattle.std.proofs.lemmas.Option.{same_Some}
use Rattle.std.proofs.Math.Nat.{mul-le-mul_right}
use Rattle.dp_model.specs.declared.env.PoolSpec.{PoolSpec}
use Rattle.dp_model.specs.Environments.{room_at}
use Rattle.dp_model.specs.Limits.{default_headroom}
use Rattle.dp_model.specs.Buffers.{Number}
use Rattle.dp_model.specs.Packets.{Segment, Packet, IsFresh, Lies, IsWithin, received}
use Rattle.dp_model.specs.Machine.{Setting, State, live, segments_held, segments_listed, Holds, World}
use Rattle.dp_model.specs.Runs.{first_state, between}
use Rattle.dp_model.specs.Starts.{IsStart}
use Rattle.dp_model.specs.Laws.Lists.{all_left, all_right, all_join}

-- the live segments of a state, part by part
pub record AllParts (P : Segment → Type 0) (s : State) : Type 0 where
  pub held : AllByRecursion P (segments_held s.packets)
  pub rings : AllByRecursion P (segments_listed s.world.rings)
  pub outboxes : AllByRecursion P (segments_listed s.world.outboxes)

-- what holds of all live segments holds in each part
pub parts : (P : Segment → Type 0) (s : State) → AllByRecursion P (live s) → AllParts P s
parts P s all =
    let lists = all_right P (segments_held s.packets) (segments_listed s.world.rings ++ segments_listed s.world.outboxes) all in
    record {
      held = all_left P (segments_held s.packets) (segments_listed s.world.rings ++ segments_listed s.world.outboxes) all;
      rings = all_left P (segments_listed s.world.rings) (segments_listed s.world.outboxes) lists;
      outboxes = all_right P (segments_listed s.world.rings) (segments_listed s.world.outboxes) lists;
    }

-- the live segments of a state lie within their buffers
abbrev pub IsInside : Setting → State → Type 0
IsInside c s = IsWithin c.env.pools s.world.buffers (live s)

-- what holds of all held segments holds of those of one register
pub all_held : (P : Segment → Type 0) (packets : List (Option Packet)) (p : ℕ) (packet : Packet) → AllByRecursion P (segments_held packets)
    → slice_get packets p ≡ Some (Some packet) → AllByRecursion P packet
all_held P [] p packet all h = cc
all_held P (None ∷ packets) zero packet all h = cc
all_held P (Some j ∷ packets) zero packet all h = subst (AllByRecursion P) (same_Some j packet (same_Some _ _ h)) (all_left P j (segments_held packets) all)
all_held P (None ∷ packets) (suc p) packet all h = all_held P packets p packet all h
all_held P (Some j ∷ packets) (suc p) packet all h = all_held P packets p packet (all_right P j (segments_held packets) all) h

-- a register's packet lies within its buffers
pub inside_held : (setting : Setting) (s : State) (p : ℕ) (packet : Packet) → IsInside setting s → Holds s p packet
    → AllByRecursion (Lies setting.env.pools) packet
inside_held setting s p packet well holds = all_held (Lies setting.env.pools) s.packets p packet (parts (Lies setting.env.pools) s well.lie).held holds

-- a received packet's segments lie within their buffers, if there are enough of them
pub lies_received : (pools : List PoolSpec) (segments : List Segment) (pool : ℕ) (ns : List Number) (len : ℕ) → default_headroom ≤ room_at pools pool
    → len ≤ length ns * (room_at pools pool - default_headroom) → AllByRecursion (IsFresh pools segments pool) ns
    → AllByRecursion (Lies pools) (received (room_at pools pool) ns len)
lies_received pools segments pool [] len room le all = tt
lies_received pools segments pool (n ∷ []) len room le all =
    let same : room_at pools n.pool ≡ room_at pools pool = ap (room_at pools) all.0.of_pool in
    (record { fits = omega (arith, room, le, same); number = all.0.exists }, tt)
lies_received pools segments pool (n ∷ m ∷ ns) len room le all =
    let same : room_at pools n.pool ≡ room_at pools pool = ap (room_at pools) all.0.of_pool in (
      record { fits = omega (arith, room, same); number = all.0.exists },
      lies_received pools segments pool (m ∷ ns) (len - (room_at pools pool - default_headroom)) room
          (fewer (length ns) (room_at pools pool - default_headroom) len le) all.1,
    )
  where
    fewer : (c r len : ℕ) → len ≤ suc (suc c) * r → len - r ≤ suc c * r
    fewer c r len h = omega (arith, h)

-- the segments that are needed have room for the record
pub needed_holds : (room len : ℕ) → 0 < room → len ≤ max 1 ((len + (room - 1)) / room) * room
needed_holds room len pos =
    let q = (len + (room - 1)) / room in
    let more : q ≤ max 1 q = omega arith in
    omega (arith, pos, mul-le-mul_right room more)

-- what holds of a packet and between two node runs holds where the node run begins
pub all_first : (P : Segment → Type 0) (packet : Packet) (number : ℕ) (w : World) → AllByRecursion P packet → AllByRecursion P (live (between w))
    → AllByRecursion P (live (first_state packet number w))
all_first P packet number w here rest = all_join P (packet ++ []) (live (between w)) (all_join P packet [] here tt) rest

none_at_all : {Z : Type 0} (P : Segment → Type 0) (zs : List Z) → AllByRecursion P (segments_listed (map (λ _. []) zs))
none_at_all P [] = tt
none_at_all P (z ∷ zs) = none_at_all P zs

-- before the first record live segments lie within their buffers, as there are none
pub start_inside : (setting : Setting) (w : World) → IsStart setting.env w → IsInside setting (between w)
start_inside setting w start =
    record {
      rooms = start.rooms;
      bytes = start.bytes;
      lie = all_join (Lies setting.env.pools) (segments_listed w.rings) (segments_listed w.outboxes)
          (subst (λ lists. AllByRecursion (Lies setting.env.pools) (segments_listed lists)) (sym start.rings)
          (none_at_all (Lies setting.env.pools) setting.env.rings))
          (subst (λ lists. AllByRecursion (Lies setting.env.pools) (segments_listed lists)) (sym start.outboxes)
          (none_at_all (Lies setting.env.pools) setting.env.ports));
    }

-- Each step keeps packets at 1 to 64 segments.
use Rattle.std.proofs.Common.{◌≡◌, ℕ, zero, suc, Bool, List, [], ◌∷◌, ◌++◌, length, Option, Some, None, refl, sym, ap, subst, arith, length-append}
use Rattle.std.specs.Prelude.{slice_get, slice_set}
use Rattle.std.specs.List.{AllByRecursion}
use Rattle.std.proofs.lemmas.List.{length-map}
use Rattle.dp_model.specs.declared.env.PoolSpec.{PoolSpec}
use Rattle.dp_model.specs.declared.instr.Instr.{Instr}
use Rattle.dp_model.specs.declared.queue.Queue.{Queue}
use Rattle.dp_model.specs.declared.queue.Queue.TheVariants.{Tx, Ring}
use Rattle.dp_model.specs.Buffers.{Number}
use Rattle.dp_model.specs.Packets.{Segment, Packet, allocated, cloned, at_front, at_end, more_before, less_before, more_after, less_after}
use Rattle.dp_model.specs.Machine.{Setting, State, Next, Move, Acts, Holds, with_packet, without_packet, packets_in, with_queue}
use Rattle.dp_model.specs.Machine.{with_step, Step}
use Rattle.dp_model.specs.Runs.{StepsTo}
use Rattle.dp_model.specs.Safety.{IsPacket, IsPacketOrNone, ArePackets}
use Rattle.dp_model.specs.Laws.Effects.{Effect, Kept, Calculated, Refused, Allocated, Cloned, Freed, Prepended, Appended, Adjusted, Trimmed, Chained}
use Rattle.dp_model.specs.Laws.Effects.{Stored, Queued, effect_of}
use Rattle.dp_model.proofs.SoundClone.{length_cloned}
use Rattle.dp_model.specs.Laws.Lists.{all_join, each_at}
use Rattle.dp_model.specs.Laws.Steps.{budget_keeps}
use Rattle.dp_model.proofs.RunFolds.{goes_keeps}

-- ---- lists

pub each_set : {X : Type 0} (P : X → Type 0) (xs : List X) (p : ℕ) (x : X) → AllByRecursion P xs → P x → AllByRecursion P (slice_set xs p x)
each_set P [] p x all here = tt
each_set P (y ∷ xs) zero x all here = (here, all.1)
each_set P (y ∷ xs) (suc p) x all here = (all.0, each_set P xs p x all.1 here)

-- ---- packets
pub length_front : (f : Segment → Segment) (k : Packet) → length (at_front f k) ≡ length k
length_front f [] = refl
length_front f (s ∷ rest) = refl

pub length_end : (f : Segment → Segment) (k : Packet) → length (at_end f k) ≡ length k
length_end f [] = refl
length_end f (s ∷ []) = refl
length_end f (s ∷ t ∷ rest) = ap suc (length_end f (t ∷ rest))

-- a packet of the same length
as_long : (k j : Packet) → length j ≡ length k → IsPacket k → IsPacket j
as_long k j e is = (omega (arith, e, is.0), omega (arith, e, is.1))

held_packet : (s : State) (p : ℕ) (k : Packet) → ArePackets s → Holds s p k → IsPacket k
held_packet s p k are holds = each_at IsPacketOrNone s.packets p (Some k) are.held holds

-- a register is set
pub set_packets : (s : State) (p : ℕ) (o : Option Packet) → ArePackets s → IsPacketOrNone o → ArePackets (record s { packets = slice_set s.packets p o })
set_packets s p o are here = record { held = each_set IsPacketOrNone s.packets p o are.held here; rings = are.rings; outboxes = are.outboxes }

queue_packets : (s : State) (p : ℕ) (queue : Queue) (k : Packet) (packets : List Packet) → ArePackets s → Holds s p k →
    packets_in queue s.world ≡ Some packets → ArePackets (with_queue queue (packets ++ k ∷ []) (without_packet p s))
queue_packets s p queue k packets are holds there = go queue there
  where
    pushed : (lists : List (List Packet)) (i : ℕ) → AllByRecursion (AllByRecursion IsPacket) lists → slice_get lists i ≡ Some packets →
        AllByRecursion (AllByRecursion IsPacket) (slice_set lists i (packets ++ k ∷ []))
    pushed lists i all there =
        each_set (AllByRecursion IsPacket) lists i (packets ++ k ∷ []) all
        (all_join IsPacket packets (k ∷ []) (each_at (AllByRecursion IsPacket) lists i packets all there) (held_packet s p k are holds, tt))

    gone : ArePackets (without_packet p s)
    gone = set_packets s p None are tt

    go : (queue : Queue) → packets_in queue s.world ≡ Some packets → ArePackets (with_queue queue (packets ++ k ∷ []) (without_packet p s))
    go (Tx port) there = record { held = gone.held; rings = are.rings; outboxes = pushed s.world.outboxes port are.outboxes there }
    go (Ring ring) there = record { held = gone.held; rings = pushed s.world.rings ring are.rings there; outboxes = are.outboxes }

-- the same, where only numbers, buffers and counts change
pub same_packets : (s s' : State) → s'.packets ≡ s.packets → s'.world.rings ≡ s.world.rings → s'.world.outboxes ≡ s.world.outboxes → ArePackets s →
    ArePackets s'
same_packets s s' p r o are = record {
  held = subst (AllByRecursion IsPacketOrNone) (sym p) are.held;
  rings = subst (AllByRecursion (AllByRecursion IsPacket)) (sym r) are.rings;
  outboxes = subst (AllByRecursion (AllByRecursion IsPacket)) (sym o) are.outboxes;
}

-- ---- a step
allocated_packet : (pools : List PoolSpec) (ns : List Number) → length ns ≡ 1 → IsPacket (allocated pools ns)
allocated_packet pools ns one = let e : length (allocated pools ns) ≡ length ns = length-map ns _ in (omega (arith, e, one), omega (arith, e, one))

-- the register has another packet of the same length
edited : (s : State) (p : ℕ) (k j : Packet) → ArePackets s → Holds s p k → length j ≡ length k → ArePackets (with_packet p j s)
edited s p k j are holds long = set_packets s p (Some j) are (as_long k j long (held_packet s p k are holds))

by : (s s' t : State) → s ≡ s' → s'.packets ≡ t.packets → s'.world.rings ≡ t.world.rings → s'.world.outboxes ≡ t.world.outboxes → ArePackets t → ArePackets s
by s s' t is packets rings outboxes are = subst ArePackets (sym is) (same_packets t s' packets rings outboxes are)

effect_packets : (c : Setting) (s : State) (m : Move) → ArePackets s → Effect c s m → ArePackets m.state
effect_packets c s m are (Kept is _) = by m.state _ s is refl refl refl are
effect_packets c s m are (Calculated numbers is _) = by m.state _ s is refl refl refl are
effect_packets c s m are (Refused is _) = by m.state _ s is refl refl refl are
effect_packets c s m are (Allocated p pool ns buffers empty fresh changes is _) =
    by m.state _ (with_packet p (allocated c.env.pools ns) s) is refl refl refl
    (set_packets s p (Some (allocated c.env.pools ns)) are (allocated_packet c.env.pools ns fresh.count))
effect_packets c s m are (Cloned p q pool k ns holds empty fresh is _) =
    by m.state _ (with_packet p (cloned ns k) s) is refl refl refl
    (set_packets s p (Some (cloned ns k)) are (as_long k (cloned ns k) (length_cloned ns k fresh.count) (held_packet s q k are holds)))
effect_packets c s m are (Freed p k holds is _) = by m.state _ (without_packet p s) is refl refl refl (set_packets s p None are tt)
effect_packets c s m are (Prepended p n k holds le sole is _) =
    by m.state _ (with_packet p (at_front (more_before n) k) s) is refl refl refl (edited s p k _ are holds (length_front (more_before n) k))
effect_packets c s m are (Appended p n k holds le sole is _) =
    by m.state _ (with_packet p (at_end (more_after n) k) s) is refl refl refl (edited s p k _ are holds (length_end (more_after n) k))
effect_packets c s m are (Adjusted p n k holds le is _) =
    by m.state _ (with_packet p (at_front (less_before n) k) s) is refl refl refl (edited s p k _ are holds (length_front (less_before n) k))
effect_packets c s m are (Trimmed p n k holds le is _) =
    by m.state _ (with_packet p (at_end (less_after n) k) s) is refl refl refl (edited s p k _ are holds (length_end (less_after n) k))
effect_packets c s m are (Chained p q k t hk ht apart few is _) =
    by m.state _ (without_packet q (with_packet p (k ++ t) s)) is refl refl refl
    (set_packets (with_packet p (k ++ t) s) q None (set_packets s p (Some (k ++ t)) are
    (omega (arith, length-append k t, (held_packet s p k are hk).0), omega (arith, length-append k t, few))) tt)
effect_packets c s m are (Stored p offset w n k holds le sole is _) = by m.state _ s is refl refl refl are
effect_packets c s m are (Queued p queue k packets holds there is _) = subst ArePackets (sym is) (queue_packets s p queue k packets are holds there)

pub acts_packets : (c : Setting) (label : ℕ) (s : State) (i : Instr) (m : Move) → ArePackets s → Acts c label s i m → ArePackets m.state
acts_packets c label s i m are acts = effect_packets c s m are (effect_of c label s i m acts)

pub step_packets : (c : Setting) (program : List Instr) (label : ℕ) (s : State) (m : Move) → ArePackets s → Step c program label s m → ArePackets m.state
step_packets c program label s m are st =
    let here = acts_packets c label (with_step s) st.instr st.effect (same_packets s (with_step s) refl refl refl are) st.acts in
    subst (λ m. ArePackets m.state) (sym st.is)
    (budget_keeps (λ m. ArePackets m.state) label st.effect here
    (record { held = here.held; rings = here.rings; outboxes = here.outboxes })
    (record { held = (tt, (tt, (tt, (tt, (tt, (tt, (tt, (tt, tt)))))))); rings = here.rings; outboxes = here.outboxes }))

-- ---- a run
pub goes_packets : (c : Setting) (program : List Instr) (n label : ℕ) (s : State) (answers : List Bool) (next : Next) (s' : State) → ArePackets s →
    StepsTo c program n label s answers next s' → ArePackets s'
goes_packets c program = goes_keeps c program ArePackets (step_packets c program)

-- Packets other than the one that an instruction writes have references of their own.
use Rattle.std.proofs.Common.{◌≡◌, ◌≢◌, ℕ, zero, suc, ◌+◌, ◌≤◌, List, [], ◌∷◌, Some, sym, ◌∙◌, ap, arith, inl, inr}
use Rattle.std.specs.Prelude.{Contains, flat_map}
use Rattle.dp_model.specs.declared.instr.Instr.{Instr}
use Rattle.dp_model.specs.Buffers.{Number}
use Rattle.dp_model.specs.Packets.{Packet, refs}
use Rattle.dp_model.specs.Machine.{World, State, live, segments_listed, Holds}
use Rattle.dp_model.specs.Laws.References.{refs-append, refs_held, refs_two, live_parts}
use Rattle.dp_copies.specs.Seen.{written_register, IsListed, IsQueued, IsBeside}

-- the references of a packet of a list
refs_contained : (packets : List Packet) (k : Packet) (b : Number) → Contains packets k → refs k b ≤ refs (flat_map (λ k. k) packets) b
refs_contained [] k b (index, there, is) = absurd (omega (arith, there))
refs_contained (x ∷ packets) k b (zero, there, is) =
    let e : refs x b ≡ refs k b = ap (λ k. refs k b) is in
    omega (arith, e, refs-append x (flat_map (λ k. k) packets) b)
refs_contained (x ∷ packets) k b (suc index, there, is) =
    omega (arith, refs_contained packets k b (index, omega (arith, there), is), refs-append x (flat_map (λ k. k) packets) b)

-- the references of a list among lists
refs_in_list : (lists : List (List Packet)) (packets : List Packet) (b : Number) → Contains lists packets →
    refs (flat_map (λ k. k) packets) b ≤ refs (segments_listed lists) b
refs_in_list [] packets b (index, there, is) = absurd (omega (arith, there))
refs_in_list (x ∷ lists) packets b (zero, there, is) =
    let e : refs (flat_map (λ k. k) x) b ≡ refs (flat_map (λ k. k) packets) b = ap (λ (l : List Packet). refs (flat_map (λ k. k) l) b) is in
    omega (arith, e, refs-append (flat_map (λ k. k) x) (segments_listed lists) b)
refs_in_list (x ∷ lists) packets b (suc index, there, is) =
    omega (arith, refs_in_list lists packets b (index, omega (arith, there), is), refs-append (flat_map (λ k. k) x) (segments_listed lists) b)

-- the references of a packet of a list among lists
refs_listed : (lists : List (List Packet)) (k : Packet) (b : Number) → IsListed lists k → refs k b ≤ refs (segments_listed lists) b
refs_listed lists k b (packets, of_lists, of_packets) =
    omega (arith, refs_contained packets k b of_packets, refs_in_list lists packets b of_lists)

-- the references of a packet in a ring or a transmit list
pub refs_queued : (w : World) (k : Packet) (b : Number) → IsQueued w k → refs k b ≤ refs (segments_listed w.rings) b + refs (segments_listed w.outboxes) b
refs_queued w k b (inl ring) = omega (arith, refs_listed w.rings k b ring)
refs_queued w k b (inr outbox) = omega (arith, refs_listed w.outboxes k b outbox)

-- its references are among all
pub refs_beside : (i : Instr) (s : State) (k : Packet) (b : Number) → IsBeside i s k → refs k b ≤ refs (live s) b
refs_beside i s k b (inl (q, other, holds)) = omega (arith, live_parts s b, refs_held s.packets q (Some k) b holds)
refs_beside i s k b (inr queued) = omega (arith, live_parts s b, refs_queued s.world k b queued)

-- and so are both packets' together
pub refs_beside_written : (i : Instr) (s : State) (p : ℕ) (j k : Packet) (b : Number) → written_register i ≡ Some p → Holds s p j → IsBeside i s k →
    refs j b + refs k b ≤ refs (live s) b
refs_beside_written i s p j k b written held (inl (q, other, holds)) =
    let apart : q ≢ p = λ e. other (written ∙ ap Some (sym e)) in
    omega (arith, live_parts s b, refs_two s.packets q p (Some k) (Some j) b apart holds held)
refs_beside_written i s p j k b written held (inr queued) =
    omega (arith, live_parts s b, refs_held s.packets p (Some j) b held, refs_queued s.world k b queued)

-- The first packet of a transmit list or a ring leaves it, and is freed.
use Rattle.std.proofs.Common.{◌≡◌, ℕ, ◌+◌, List, ◌∷◌, map, Option, Some, None, refl, ◌∙◌, ap, arith}
use Rattle.std.specs.Prelude.{slice_get, ◌==◌}
use Rattle.dp_model.specs.Packets.{Packet}
use Rattle.dp_model.specs.Stores.{with_slot}
use Rattle.dp_model.specs.declared.queue.Queue.{Queue}
use Rattle.dp_model.specs.declared.queue.Queue.TheVariants.{Tx, Ring}
use Rattle.dp_engine.specs.Handles.{packet_at, handles_held, once, occurs, in_slot, waiting, Lists, Core, moved}
use Rattle.dp_engine.specs.MachineParts.{MachineParts, core_of, OccurOnce}
use Rattle.dp_model.specs.Machine.{packets_in, with_queue}
use Rattle.dp_engine.specs.HandleQueues.{handles_in, with_handles}
use Rattle.dp_engine.proofs.Handles.{is_one, in_slot_some, not_held, not_waiting, occurs_less, stand_emptied, waits}
use Rattle.dp_engine.proofs.Machines.{packets_of, core_with}

rest_of : (slots : List (Option Packet)) (h : ℕ) (xs : List ℕ) (k : Packet) (packets : List Packet) → map (packet_at slots) (h ∷ xs) ≡ k ∷ packets →
    map (packet_at slots) xs ≡ packets
rest_of slots h xs k packets e = tails _ _ _ _ e
  where
    tails : (x y : Packet) (xs ys : List Packet) → x ∷ xs ≡ y ∷ ys → xs ≡ ys
    tails x y xs ys e = cc

-- its handle is one fewer that waits
pub waits_less : (queue : Queue) (lists : Lists) (h x : ℕ) (xs : List ℕ) → handles_in queue lists ≡ Some (h ∷ xs) →
    occurs x (waiting (with_handles queue xs lists)) + once (h == x) ≡ occurs x (waiting lists)
waits_less (Tx i) lists h x xs there =
    omega (arith, occurs_less lists.outboxes i h x xs there, waits x lists, waits x (with_handles (Tx i) xs lists))
waits_less (Ring i) lists h x xs there =
    omega (arith, occurs_less lists.rings i h x xs there, waits x lists, waits x (with_handles (Ring i) xs lists))

-- and it named a packet
pub first_held : (queue : Queue) (m : MachineParts) (h : ℕ) (xs : List ℕ) → handles_in queue m.lists ≡ Some (h ∷ xs) → OccurOnce m →
    (k : Packet) × (slice_get m.store.slots h ≡ Some (Some k))
first_held queue m h xs there stand =
    in_slot_some (slice_get m.store.slots h) (omega (arith, stand h, waits_less queue m.lists h h xs there, is_one h h refl))

-- each handle still occurs once
pub stand_drops : (queue : Queue) (m : MachineParts) (h : ℕ) (xs : List ℕ) → handles_in queue m.lists ≡ Some (h ∷ xs) → OccurOnce m →
    OccurOnce (record m { store = with_slot h None m.store; lists = with_handles queue xs m.lists })
stand_drops queue m h xs there stand =
    let (k, has) = first_held queue m h xs there stand in
    stand_emptied m m.registers (with_handles queue xs m.lists) h k (λ x. omega (arith, waits_less queue m.lists h x xs there)) has stand

-- the slot of a handle that is nowhere does not matter
unmoved : (m : MachineParts) (h : ℕ) → occurs h (handles_held m.registers) ≡ 0 → occurs h (waiting m.lists) ≡ 0 →
    core_of (record m { store = with_slot h None m.store }) ≡ core_of m
unmoved m h held none =
    let (f, g) = not_waiting m.store.slots h None m.lists none in
    rw (not_held m.store.slots h None m.registers held, f, g) refl

-- and the queue is without the packet
pub first_drops : (queue : Queue) (m : MachineParts) (core : Core) (h : ℕ) (xs : List ℕ) (k : Packet) (packets : List Packet) → core_of m ≡ core
    → OccurOnce m → handles_in queue m.lists ≡ Some (h ∷ xs) → packets_in queue core.state.world ≡ Some (k ∷ packets) →
    core_of (record m { store = with_slot h None m.store; lists = with_handles queue xs m.lists })
    ≡ moved (with_queue queue packets core.state) core
first_drops queue m core h xs k packets is stand there box =
    let (k', has) = first_held queue m h xs there stand in
    let one : in_slot (slice_get m.store.slots h) ≡ 1 = ap in_slot has in
    let less = waits_less queue m.lists h h xs there in
    let all = packets_of queue m core (h ∷ xs) (k ∷ packets) is there box in
    unmoved (record m { lists = with_handles queue xs m.lists }) h (omega (arith, stand h, less, is_one h h refl, one))
    (omega (arith, stand h, less, is_one h h refl, one))
    ∙ core_with queue m xs
    ∙ ap (λ (ps : List Packet). moved (with_queue queue ps (core_of m).state) (core_of m)) (rest_of m.store.slots h xs k packets all)
    ∙ ap (λ (c : Core). moved (with_queue queue packets c.state) c) is

-- Steps that move packets to queues, and the end of a node run.
use Rattle.std.proofs.Common.{◌≡◌, ℕ, ◌+◌, Bool, false, List, [], ◌∷◌, ◌++◌, length, map, Option, Some, None, refl, ◌∙◌, ap, true, cond, sym}
use Rattle.std.specs.Prelude.{slice_set, option_map, option_and_then, nat_lt}
use Rattle.std.specs.List.{AllByRecursion, list_all}
use Rattle.std.proofs.lemmas.List.{map-set, map-append, length-map}
use Rattle.dp_model.specs.declared.env.PoolSpec.{PoolSpec}
use Rattle.dp_model.specs.declared.queue.Queue.{Queue}
use Rattle.dp_model.specs.declared.queue.Queue.TheVariants.{Tx, Ring}
use Rattle.dp_model.specs.Buffers.{Buffers}
use Rattle.dp_model.specs.Packets.{Packet}
use Rattle.dp_model.specs.Machine.{State, At, Setting, Move, goes_on, moves_to, without_packet, in_queue, slots_of, packets_in, with_queue, Leaves}
use Rattle.dp_model.specs.CopyMachine.{Copy, copy_put, copy_step, copy_on, is_gone, CopyMove, CopyState, copy_queue, copy_leaves}
use Rattle.dp_model.specs.Copies.{copy_of}
use Rattle.dp_model.specs.declared.instr.Instr.{Instr}
use Rattle.dp_model.specs.Laws.Lists.{map_get}
use Rattle.dp_copies.proofs.States.{copied}
use Rattle.dp_copies.proofs.Moves.{Does, by, either, held_step, put_copies}

-- no register holds a packet, so none holds a copy
pub all_gone : (pools : List PoolSpec) (buffers : Buffers) (packets : List (Option Packet)) → AllByRecursion (λ o. o ≡ None) packets →
    list_all is_gone (map (option_map (copy_of pools buffers)) packets) ≡ true
all_gone pools buffers [] gone = refl
all_gone pools buffers (None ∷ packets) gone = all_gone pools buffers packets gone.1
all_gone pools buffers (Some k ∷ packets) gone = let h = gone.0 in cc

module _ (pools : List PoolSpec) (s : State) where
  -- the copies of packets, in the state's buffers
  abbrev copies : List Packet → List Copy
  copies packets = map (copy_of pools s.world.buffers) packets

  -- the copies in a queue are those of its packets
  copies_in : (queue : Queue) (packets : List Packet) → packets_in queue s.world ≡ Some packets →
      in_queue queue (map copies s.world.outboxes) (map copies s.world.rings) ≡ Some (copies packets)
  copies_in (Tx port) packets there = map_get copies s.world.outboxes port packets there
  copies_in (Ring ring) packets there = map_get copies s.world.rings ring packets there

  -- also if a packet has moved there
  queue_copies : (p : ℕ) (queue : Queue) (k : Packet) (packets : List Packet) (later : List Bool) →
      copied pools (with_queue queue (packets ++ k ∷ []) (without_packet p s)) later
      ≡ copy_queue queue (copies packets ++ copies (k ∷ [])) (copy_put p None (copied pools s later))
  queue_copies p queue k packets later = go queue ∙ ap (copy_queue queue (copies packets ++ copies (k ∷ []))) (put_copies pools s p None later)
    where
      gone : CopyState
      gone = copied pools (without_packet p s) later

      pushed : (lists : List (List Packet)) (i : ℕ) → map copies (slice_set lists i (packets ++ k ∷ []))
          ≡ slice_set (map copies lists) i (copies packets ++ copies (k ∷ []))
      pushed lists i = map-set copies lists i (packets ++ k ∷ [])
          ∙ ap (slice_set (map copies lists) i) (map-append (copy_of pools s.world.buffers) packets (k ∷ []))

      go : (queue : Queue) → copied pools (with_queue queue (packets ++ k ∷ []) (without_packet p s)) later
          ≡ copy_queue queue (copies packets ++ copies (k ∷ [])) gone
      go (Tx port) = ap (λ lists. record gone { outboxes = lists }) (pushed s.world.outboxes port)
      go (Ring ring) = ap (λ lists. record gone { rings = lists }) (pushed s.world.rings ring)

-- a packet moves to a queue
pub leaves_copy : (c : Setting) (label : ℕ) (s : State) (i : Instr) (m : Move) (later : List Bool) (p : ℕ) (queue : Queue) (l : ℕ) →
    ((answers : List Bool) → copy_step c.env c.tables label (copied c.env.pools s answers) i
    ≡ copy_leaves c.env label (copied c.env.pools s answers) p queue l) → Leaves c.env label s p queue l m → Does c label s i later m
leaves_copy c label s i m later p queue l step (k, slots, packets, holds, has, there, is) = by c label s i later m _ is
    (either c label s i later (nat_lt (length packets + 1) slots) (goes_on label (with_queue queue (packets ++ k ∷ []) (without_packet p s))) (moves_to l s)
    (λ yes. moves true yes ∙ ap (λ t. Some (At (label + 1), t)) (sym (queue_copies c.env.pools s p queue k packets later)))
    (λ no. moves false no))
  where
    x : CopyState
    x = copied c.env.pools s later

    to : Bool → List Copy → Copy → CopyMove
    to b all k = cond b (copy_on label (copy_queue queue (all ++ k ∷ []) (copy_put p None x))) (At l, x)

    go : Copy → ℕ → List Copy → CopyMove
    go k slots all = to (nat_lt (length all + 1) slots) all k

    moves : (b : Bool) → nat_lt (length packets + 1) slots ≡ b →
        copy_step c.env c.tables label x i ≡ Some (to b (copies c.env.pools s packets) (copy_of c.env.pools s.world.buffers k))
    moves b test =
        let copy = copy_of c.env.pools s.world.buffers in
        step later
        ∙ held_step c.env.pools s later p k (λ k. option_and_then (λ slots. option_map (go k slots) (in_queue queue x.outboxes x.rings))
        (slots_of c.env queue)) holds
        ∙ ap (option_and_then (λ slots. option_map (go (copy k) slots) (in_queue queue x.outboxes x.rings))) has
        ∙ ap (option_map (go (copy k) slots)) (copies_in c.env.pools s queue packets there)
        ∙ ap (λ b. Some (to b (map copy packets) (copy k))) (ap (λ n. nat_lt (n + 1) slots) (length-map packets copy) ∙ test)

-- Node runs on the packets that wait in rings.
use Rattle.std.proofs.Common.{◌≡◌, ℕ, zero, suc, ◌+◌, Bool, List, [], ◌∷◌, ◌++◌, map, Option, Some, None, refl, ◌∙◌, ap, subst, arith, sym, append_assoc}
use Rattle.std.specs.Prelude.{slice_get, slice_set, option_map, option_and_then, MatchOption}
use Rattle.std.specs.Option.{option_map_or}
use Rattle.dp_model.specs.declared.env.PoolSpec.{PoolSpec}
use Rattle.dp_model.specs.Buffers.{Buffers}
use Rattle.dp_model.specs.Packets.{Packet, Lies}
use Rattle.dp_model.specs.Machine.{segments_listed, Setting, World}
use Rattle.dp_model.specs.Copies.{copy_of}
use Rattle.dp_model.specs.CopyMachine.{are_answered, Copy, CopyState, copy_node_run, copy_serves}
use Rattle.dp_model.specs.declared.instr.Instr.{Instr}
use Rattle.dp_model.specs.Runs.{first_state, NodeRun, between, Waiting, beyond, first_waiting, Serves}
use Rattle.dp_model.specs.Laws.Lists.{all_left, all_right, all_join}
use Rattle.dp_model.specs.Laws.Within.{IsInside, all_first}
use Rattle.dp_model.specs.Laws.Waiting.{waits, all_pop}
use Rattle.dp_copies.proofs.Lengths.{there}
use Rattle.dp_copies.proofs.Landings.{Shows, Lands, stays, node_lands}

-- the copies of what waits
abbrev copy_waiting : List PoolSpec → Buffers → Waiting Packet → Waiting Copy
copy_waiting pools buffers next = record { ring = next.ring; packet = copy_of pools buffers next.packet; rings = map (map (copy_of pools buffers)) next.rings }

-- the same packet waits first
first_copies : (pools : List PoolSpec) (buffers : Buffers) (rings : List (List Packet)) → first_waiting (map (map (copy_of pools buffers)) rings)
    ≡ option_map (copy_waiting pools buffers) (first_waiting rings)
first_copies pools buffers [] = refl
first_copies pools buffers ([] ∷ rings) = ap (option_map (beyond [])) (first_copies pools buffers rings) ∙ swap (first_waiting rings)
  where
    swap : (o : Option (Waiting Packet)) → option_map (beyond []) (option_map (copy_waiting pools buffers) o)
        ≡ option_map (copy_waiting pools buffers) (option_map (beyond []) o)
    swap None = refl
    swap (Some next) = refl
first_copies pools buffers ((k ∷ packets) ∷ rings) = refl

-- it lies within the buffers
ring_inside : (c : Setting) (next : Waiting Packet) (w : World) → first_waiting w.rings ≡ Some next → IsInside c (between w) →
    IsInside c (first_state next.packet next.ring (record w { rings = next.rings }))
ring_inside c next w e well =
    let (packets, there, are) = waits w.rings next e in
    subst (λ rings. IsInside c (first_state next.packet next.ring (record w { rings = rings }))) (sym are) (popped packets there)
  where
    popped : (packets : List Packet) → slice_get w.rings next.ring ≡ Some (next.packet ∷ packets) →
        IsInside c (first_state next.packet next.ring (record w { rings = slice_set w.rings next.ring packets }))
    popped packets there =
        let pools = c.env.pools in
        let w1 : World = record w { rings = slice_set w.rings next.ring packets } in
        let lists = all_pop (Lies pools) w.rings next.ring next.packet packets there
        (all_left (Lies pools) (segments_listed w.rings) (segments_listed w.outboxes) well.lie) in
        record {
          rooms = well.rooms;
          bytes = well.bytes;
          lie = all_first (Lies pools) next.packet next.ring w1 lists.0
              (all_join (Lies pools) (segments_listed w1.rings) (segments_listed w.outboxes) lists.1
              (all_right (Lies pools) (segments_listed w.rings) (segments_listed w.outboxes) well.lie));
        }

-- up to n node runs
pub serves_lands : (c : Setting) (programs : List (List Instr)) (n : ℕ) (w w' : World) (answers later : List Bool) (runs : ℕ) (x : CopyState) →
    IsInside c (between w) → Shows c.env.pools w (answers ++ later) x → Serves c programs n w answers runs w' →
    Lands c w' later (λ fuel. copy_serves c.env c.tables fuel programs n x) (λ t. t)
serves_lands c programs zero w w' answers later runs x well shows (none, _, is) =
    stays c w w' answers later x (λ fuel. copy_serves c.env c.tables fuel programs zero x) (λ t. t) well shows none is (λ fuel. refl)
serves_lands c programs (suc n) w w' answers later runs x well shows serves =
    go (first_waiting w.rings) refl serves (λ mid answers runs x. serves_lands c programs n mid w' answers later runs x)
  where
    go : (o : Option (Waiting Packet)) → first_waiting w.rings ≡ o → MatchOption o ((answers ≡ []) × (runs ≡ 0) × (w' ≡ w)) (λ next. (program : List Instr)
        × (now later : List Bool) × (mid : World) × (more : ℕ) × (slice_get programs next.ring ≡ Some program)
        × NodeRun c program next.packet next.ring (record w { rings = next.rings }) now mid × Serves c programs n mid later more w' × (answers ≡ now ++ later)
        × (runs ≡ more + 1)) → ((mid : World) (answers : List Bool) (runs : ℕ) (x : CopyState) → IsInside c (between mid) →
        Shows c.env.pools mid (answers ++ later) x → Serves c programs n mid answers runs w' →
        Lands c w' later (λ fuel. copy_serves c.env c.tables fuel programs n x) (λ t. t)) →
        Lands c w' later (λ fuel. copy_serves c.env c.tables fuel programs (suc n) x) (λ t. t)
    go None e (none, _, is) on =
        let waiting : first_waiting x.rings ≡ None = ap first_waiting shows.rings
        ∙ (first_copies c.env.pools w.buffers w.rings ∙ ap (option_map (copy_waiting c.env.pools w.buffers)) e) in
        stays c w w' answers later x (λ fuel. copy_serves c.env c.tables fuel programs (suc n) x) (λ t. t) well shows none is
        (λ fuel. ap (λ o. option_map_or (λ next. option_and_then (copy_serves c.env c.tables fuel programs n)
        (option_and_then (λ program. copy_node_run c.env c.tables fuel program next.packet next.ring (record x { rings = next.rings }))
        (slice_get programs next.ring))) o (Some x)) waiting)
    go (Some next) e (program, now, rest, mid, more, is_program, run, serves, are_answered, _) on =
        let pools = c.env.pools in
        let waiting : first_waiting x.rings ≡ Some (copy_waiting pools w.buffers next) = ap first_waiting shows.rings
        ∙ (first_copies pools w.buffers w.rings ∙ ap (option_map (copy_waiting pools w.buffers)) e) in
        let y : CopyState = record x { rings = map (map (copy_of pools w.buffers)) next.rings } in
        let split : answers ++ later ≡ now ++ (rest ++ later) = ap (λ ts. ts ++ later) are_answered ∙ append_assoc now rest later in
        let node = node_lands c program next.packet next.ring (record w { rings = next.rings }) mid now (rest
        ++ later) y (ring_inside c next w e well) (record {
          rings = refl;
          outboxes = shows.outboxes;
          to_answer = shows.to_answer
              ∙ split;
          cuts = shows.cuts;
        }) run in
        let others = on mid rest more node.state node.within node.shows serves in
        record {
          state = others.state;
          shows = others.shows;
          enough = node.enough + others.enough;
          lands = λ fuel le.
              ap (λ o. option_map_or (λ next. option_and_then (copy_serves c.env c.tables fuel programs n)
              (option_and_then (λ program. copy_node_run c.env c.tables fuel program next.packet next.ring (record x { rings = next.rings }))
              (slice_get programs next.ring))) o (Some x)) waiting
              ∙ (ap (λ o. option_and_then (copy_serves c.env c.tables fuel programs n)
              (option_and_then (λ program. copy_node_run c.env c.tables fuel program (copy_of pools w.buffers next.packet) next.ring y) o)) is_program
              ∙ (ap (option_and_then (copy_serves c.env c.tables fuel programs n)) (node.lands fuel (omega (arith, le)))
              ∙ others.lands fuel (omega (arith, le))));
          within = others.within;
        }

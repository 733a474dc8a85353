-- Steps that take buffers: alloc and clone.
use Rattle.std.proofs.Common.{◌≡◌, ℕ, ◌+◌, Bool, false, List, [], ◌∷◌, length, map, Some, refl, ◌∙◌, ap, arith, true, sym}
use Rattle.std.specs.Prelude.{slice_set, option_map, MatchBool}
use Rattle.std.specs.List.{AllByRecursion}
use Rattle.std.proofs.lemmas.List.{map-set}
use Rattle.dp_model.specs.declared.env.PoolSpec.{PoolSpec}
use Rattle.dp_model.specs.Buffers.{Number, Buffers, ChangesOnly}
use Rattle.dp_model.specs.Packets.{Packet, allocated, cloned, IsFresh, AreFresh}
use Rattle.dp_model.specs.Machine.{State, live, Holds, with_buffers, At, IsEmpty, with_packet, with_call, Setting, Move, is_given, is_refused, is_denied}
use Rattle.dp_model.specs.CopyMachine.{Copy, copy_put, copy_step, copy_on, copy_allocated, with_held, with_empty, are_answered}
use Rattle.dp_model.specs.Copies.{copy_of}
use Rattle.dp_model.specs.declared.instr.Instr.{Instr}
use Rattle.dp_model.specs.Laws.References.{live_parts}
use Rattle.dp_model.specs.Laws.Cases.{matched}
use Rattle.dp_copies.proofs.States.{copied, same_lists}
use Rattle.dp_copies.proofs.Unchanged.{Same, held_same, listed_same}
use Rattle.dp_copies.proofs.Taking.{alloc_copy, cloned_copy, fresh_same}
use Rattle.dp_copies.proofs.Moves.{Does, by, held_step, empty_step}

-- a register is set, with buffers that differ only outside live segments
set_copies : (pools : List PoolSpec) (st : State) (p : ℕ) (k : Packet) (c : Copy) (buffers : Buffers) (answers : List Bool) →
    Same pools st.world.buffers buffers (live st) → copy_of pools buffers k ≡ c → copied pools (with_call (with_packet p k (with_buffers buffers st))) answers
    ≡ copy_put p (Some c) (copied pools st answers)
unfolding Same
set_copies pools st p k c buffers answers same is =
    let old = st.world.buffers in
    let held = map-set (option_map (copy_of pools buffers)) st.packets p (Some k)
    ∙ ap (λ x. slice_set (map (option_map (copy_of pools buffers)) st.packets) p (Some x)) is
    ∙ ap (λ xs. slice_set xs p (Some c)) (held_same pools old buffers st.packets (λ b one. same b (omega (arith, one, live_parts st b)))) in
    let rings = listed_same pools old buffers st.world.rings (λ b one. same b (omega (arith, one, live_parts st b))) in
    let outboxes = listed_same pools old buffers st.world.outboxes (λ b one. same b (omega (arith, one, live_parts st b))) in
    same_lists (copied pools (with_packet p k (with_buffers buffers st)) answers) held rings outboxes

-- the instruction asks for a packet with this copy, for an empty register
abbrev Asks : Setting → ℕ → State → Instr → ℕ → ℕ → Copy → Type 0
Asks c label s i p l new = (answers : List Bool) → copy_step c.env c.tables label (copied c.env.pools s answers) i
    ≡ with_empty (copied c.env.pools s answers) p (are_answered (copied c.env.pools s answers) (λ t. copy_on label (copy_put p (Some new) t)) (λ t. (At l, t)))

module _ (c : Setting) (label : ℕ) (s : State) (i : Instr) (m : Move) (later : List Bool) (p l : ℕ) where
  -- the call is refused
  refused : (new : Copy) → Asks c label s i p l new → IsEmpty s p → m ≡ is_refused l s → Does c label s i later m
  refused new asks empty is = by c label s i later m _ is (asks (false ∷ later) ∙ empty_step c.env.pools s (false ∷ later) p _ empty)

  -- the call gets a packet
  given : (k : Packet) (new : Copy) (buffers : Buffers) → Asks c label s i p l new → IsEmpty s p → Same c.env.pools s.world.buffers buffers (live s) →
      copy_of c.env.pools buffers k ≡ new → m ≡ is_given label (with_packet p k (with_buffers buffers s)) → Does c label s i later m
  given k new buffers asks empty same copies is = by c label s i later m _ is
      (asks (true ∷ later) ∙ empty_step c.env.pools s (true ∷ later) p _ empty
      ∙ ap (λ t. Some (At (label + 1), t)) (sym (set_copies c.env.pools s p k new buffers later same copies)))

  -- alloc: granted or refused, as the answer says
  pub allocates : (pool : ℕ) → Asks c label s i p l (copy_allocated c.env.pools pool) → IsEmpty s p → MatchBool (is_denied c s pool 1)
      (m ≡ is_refused l s)
      ((ns : List Number) × (buffers : Buffers) × AreFresh c.env.pools (live s) pool 1 ns × ChangesOnly ns s.world.buffers buffers
      × (m ≡ is_given label (with_packet p (allocated c.env.pools ns) (with_buffers buffers s)))) → Does c label s i later m
  allocates pool asks empty call = matched (is_denied c s pool 1) _ _ call (refused (copy_allocated c.env.pools pool) asks empty)
      (λ (ns, buffers, fresh, changes, is). one ns buffers fresh.count fresh.each changes is)
    where
      one : (ns : List Number) (buffers : Buffers) → length ns ≡ 1 → AllByRecursion (IsFresh c.env.pools (live s) pool) ns →
          ChangesOnly ns s.world.buffers buffers → m ≡ is_given label (with_packet p (allocated c.env.pools ns) (with_buffers buffers s)) →
          Does c label s i later m
      one [] buffers count each changes is = absurd (omega (arith, count))
      one (n ∷ []) buffers count each changes is = given (allocated c.env.pools (n ∷ [])) (copy_allocated c.env.pools pool) buffers asks empty
          (fresh_same c.env.pools s n buffers pool each.0 changes) (alloc_copy c.env.pools buffers pool n each.0.of_pool) is
      one (n ∷ o ∷ ns) buffers count each changes is = absurd (omega (arith, count))

  -- clone: the packet's copy again
  pub clones : (q pool : ℕ) (k : Packet) → ((answers : List Bool) → copy_step c.env c.tables label (copied c.env.pools s answers) i
      ≡ with_held (copied c.env.pools s answers) q (λ k. with_empty (copied c.env.pools s answers) p
      (are_answered (copied c.env.pools s answers) (λ t. copy_on label (copy_put p (Some k) t)) (λ t. (At l, t))))) → Holds s q k → IsEmpty s p →
      MatchBool (is_denied c s pool (length k)) (m ≡ is_refused l s)
      ((ns : List Number) × AreFresh c.env.pools (live s) pool (length k) ns × (m ≡ is_given label (with_packet p (cloned ns k) s))) → Does c label s i later m
  unfolding Same
  clones q pool k step holds empty call =
      let copy = copy_of c.env.pools s.world.buffers k in
      let asks : Asks c label s i p l copy = λ answers. step answers ∙ held_step c.env.pools s answers q k (λ k. with_empty (copied c.env.pools s answers) p
      (are_answered (copied c.env.pools s answers) (λ t. copy_on label (copy_put p (Some k) t)) (λ t. (At l, t)))) holds in
      matched (is_denied c s pool (length k)) _ _ call (refused copy asks empty)
      (λ (ns, fresh, is). given (cloned ns k) copy s.world.buffers asks empty (λ b one. refl) (cloned_copy c.env.pools s.world.buffers ns k fresh.count) is)

-- Each step of the machine over shared buffers is the step of the machine of copies.
use Rattle.std.proofs.Common.{◌≡◌, ℕ, ◌+◌, Bool, List, ◌++◌, length, Some, refl, ap, arith}
use Rattle.std.specs.Prelude.{option_map, nat_le, slice_index}
use Rattle.std.proofs.lemmas.Bool.{le-leb}
use Rattle.dp_model.specs.Arithmetic.{bytes_in}
use Rattle.dp_model.specs.Packets.{IsWithin, at_front, at_end}
use Rattle.dp_model.specs.Machine.{State, live, At, Ended, Setting, Move, Acts}
use Rattle.dp_model.specs.CopyMachine.{CopyMove, copy_step, first_piece, last_piece, with_front, without_front, with_back, without_back, provided}
use Rattle.dp_model.specs.declared.instr.Instr.TheVariants.{Alloc, Clone, Free, Prepend, Adj, Append, Trim, Chain, IfHead, IfTail, IfLen, IfLast, Load, Store}
use Rattle.dp_model.specs.declared.instr.Instr.TheVariants.{LoadX, StoreX, Tx, Enq, Exit}
use Rattle.dp_model.specs.declared.instr.Instr.{Instr}
use Rattle.dp_model.specs.declared.queue.Queue.TheVariants as queues
use Rattle.dp_copies.proofs.States.{copied}
use Rattle.dp_copies.proofs.Moves.{by}
use Rattle.dp_copies.proofs.AllocationSteps.{allocates, clones}
use Rattle.dp_copies.proofs.Lengths.{first_before, first_length, last_after, last_length, there}
use Rattle.dp_copies.proofs.Lengthening.{prepend_copies, append_copies}
use Rattle.dp_copies.proofs.EditSteps.{edited, free_copies, adj_copies, trim_copies, chain_copies}
use Rattle.dp_copies.proofs.TestSteps.{tested}
use Rattle.dp_copies.proofs.ByteSteps.{some_bytes, loads_step, stores_step}
use Rattle.dp_copies.proofs.SendSteps.{leaves_copy, all_gone}

-- each step is a step of the copies
abbrev pub StepsCopy : Setting → Type 0
StepsCopy c = (label : ℕ) (s : State) (i : Instr) (m : Move) (later : List Bool) → IsWithin c.env.pools s.world.buffers (live s) → Acts c label s i m →
    copy_step c.env c.tables label (copied c.env.pools s (m.answers ++ later)) i ≡ Some (m.next, copied c.env.pools m.state later)

-- where the numbers lead
leads : (c : Setting) (s : State) (later : List Bool) → ℕ × List ℕ → CopyMove
leads c s later after = (At after.0, record (copied c.env.pools s later) { numbers = after.1 })

-- each step is a step of the copies
pub steps_copy : (c : Setting) → StepsCopy c
unfolding leads
steps_copy c label s (Alloc p pool l) m later well (empty, there, call) =
    allocates c label s (Alloc p pool l) m later p l pool (λ answers. refl) empty call
steps_copy c label s (Clone p q pool l) m later well (k, holds, empty, there, call) =
    clones c label s (Clone p q pool l) m later p l q pool k (λ answers. refl) holds empty call
steps_copy c label s (Free p) m later well (k, holds, is) = by c label s (Free p) later m _ is (free_copies c label s p k later holds)
steps_copy c label s (Prepend p n) m later well (k, holds, le, sole, is) = edited c label s _ (Prepend p n) m later p
    (λ k. nat_le n (first_piece k).before) (at_front (with_front n)) k (λ answers. refl) is holds
    (le-leb n _ (omega (arith, le, first_before c.env.pools s.world.buffers k))) (prepend_copies c s p k n later holds le sole well)
steps_copy c label s (Append p n) m later well (k, holds, le, sole, is) = edited c label s _ (Append p n) m later p
    (λ k. nat_le n (last_piece k).beyond) (at_end (with_back n)) k (λ answers. refl) is holds
    (le-leb n _ (omega (arith, le, last_after c.env.pools s.world.buffers k))) (append_copies c s p k n later holds le sole well)
steps_copy c label s (Adj p n) m later well (k, holds, le, is) = edited c label s _ (Adj p n) m later p
    (λ k. nat_le n (length (first_piece k).bytes)) (at_front (without_front n)) k (λ answers. refl) is holds
    (le-leb n _ (omega (arith, le, first_length c.env.pools s.world.buffers k (there c s p k well holds)))) (adj_copies c s p k n later holds le well)
steps_copy c label s (Trim p n) m later well (k, holds, le, is) = edited c label s _ (Trim p n) m later p
    (λ k. nat_le n (length (last_piece k).bytes)) (at_end (without_back n)) k (λ answers. refl) is holds
    (le-leb n _ (omega (arith, le, last_length c.env.pools s.world.buffers k (there c s p k well holds)))) (trim_copies c s p k n later holds le well)
steps_copy c label s (Chain p q) m later well (k, t, hk, ht, apart, few, is) =
    by c label s (Chain p q) later m _ is (chain_copies c label s p q k t later hk ht apart few)
steps_copy c label s (IfHead p n l) m later well (k, holds, is) = tested c label s (IfHead p n l) m later p n l (λ k. (first_piece k).before) _ k
    (λ answers. refl) is holds (first_before c.env.pools s.world.buffers k)
steps_copy c label s (IfTail p n l) m later well (k, holds, is) = tested c label s (IfTail p n l) m later p n l (λ k. (last_piece k).beyond) _ k
    (λ answers. refl) is holds (last_after c.env.pools s.world.buffers k)
steps_copy c label s (IfLen p n l) m later well (k, holds, is) = tested c label s (IfLen p n l) m later p n l (λ k. length (first_piece k).bytes) _ k
    (λ answers. refl) is holds (first_length c.env.pools s.world.buffers k (there c s p k well holds))
steps_copy c label s (IfLast p n l) m later well (k, holds, is) = tested c label s (IfLast p n l) m later p n l (λ k. length (last_piece k).bytes) _ k
    (λ answers. refl) is holds (last_length c.env.pools s.world.buffers k (there c s p k well holds))
steps_copy c label s (Load r p off w) m later well (k, holds, le, is) = by c label s (Load r p off w) later m _ is
    (loads_step c s later p label off (bytes_in w) r k well holds (some_bytes w) le)
steps_copy c label s (LoadX r p x off w) m later well (k, holds, le, is) = by c label s (LoadX r p x off w) later m _ is
    (loads_step c s later p label (slice_index s.numbers x + off) (bytes_in w) r k well holds (some_bytes w) le)
steps_copy c label s (Store p off w r) m later well (k, holds, le, sole, is) = by c label s (Store p off w r) later m _ is
    (stores_step c s later p label off (bytes_in w) (slice_index s.numbers r) k well holds (some_bytes w) le sole)
steps_copy c label s (StoreX p x off w r) m later well (k, holds, le, sole, is) = by c label s (StoreX p x off w r) later m _ is
    (stores_step c s later p label (slice_index s.numbers x + off) (bytes_in w) (slice_index s.numbers r) k well holds (some_bytes w) le sole)
steps_copy c label s (Tx p r l) m later well acts =
    leaves_copy c label s (Tx p r l) m later p (queues.Tx (slice_index s.numbers r)) l (λ answers. refl) acts
steps_copy c label s (Enq p ring l) m later well acts = leaves_copy c label s (Enq p ring l) m later p (queues.Ring ring) l (λ answers. refl) acts
steps_copy c label s Exit m later well (gone, is) = by c label s Exit later m _ is
    (ap (λ b. provided {A = CopyMove} b (Ended, copied c.env.pools s later)) (all_gone c.env.pools s.world.buffers s.packets gone))
steps_copy c label s i m later well acts = by c label s i later m _ acts.2 (ap (option_map (leads c s later)) acts.1)

-- Internal: the thirteen effects that instructions can have on a machine, and where each leads. A proof about all instructions goes through these.
use Rattle.std.proofs.Common.{◌≡◌, ◌⊎◌, ℕ, ◌+◌, ◌≤◌, ◌≢◌, Bool, true, false, cond, List, [], ◌∷◌, ◌++◌, length, Option, Some, refl, sym, subst, inl, inr}
use Rattle.std.specs.Prelude.{slice_index, nat_lt}
use Rattle.dp_model.specs.declared.instr.Instr.{Instr}
use Rattle.dp_model.specs.declared.instr.Instr.TheVariants.{Alloc, Free, Clone, Prepend, Adj, Append, Trim, Chain, IfHead, IfTail, IfLen, IfLast, Load, Store}
use Rattle.dp_model.specs.declared.instr.Instr.TheVariants.{LoadX, StoreX, Tx, Enq, Exit}
use Rattle.dp_model.specs.declared.queue.Queue.{Queue}
use Rattle.dp_model.specs.declared.queue.Queue.TheVariants as queues
use Rattle.dp_model.specs.declared.registers.Width.{Width}
use Rattle.dp_model.specs.Arithmetic.{bytes_in}
use Rattle.dp_model.specs.Buffers.{Number, Buffers, ChangesOnly}
use Rattle.dp_model.specs.Packets.{Packet, headroom, tailroom, first_len, last_len, AreFresh, IsHeadSole, IsTailSole, allocated, cloned, at_front, at_end}
use Rattle.dp_model.specs.Packets.{more_before, less_before, more_after, less_after, zeroed_before, zeroed_after, stored}
use Rattle.dp_model.specs.Needs.{label_of}
use Rattle.dp_model.specs.Machine.{Setting, State, live, Next, At, Ended, Move, Acts, Holds, IsEmpty, branches, goes_on, moves_to, is_denied}
use Rattle.dp_model.specs.Machine.{with_call, with_packet, without_packet, with_buffers, packets_in, with_queue, Leaves}
use Rattle.dp_model.specs.Limits.{max_segments}
use Rattle.dp_model.specs.Laws.Cases.{matched}
use Rattle.dp_model.specs.Laws.Calculations.{calculated_next}

-- an instruction's effect on a state, with what was there before
pub data Effect (setting : Setting) (s : State) (m : Move) : Type 0 where
  Kept : m.state ≡ s → m.answers ≡ [] → Effect setting s m
  Calculated : (numbers : List ℕ) → m.state ≡ record s { numbers = numbers } → m.answers ≡ [] → Effect setting s m
  Refused : m.state ≡ with_call s → m.answers ≡ false ∷ [] → Effect setting s m
  Allocated : (p pool : ℕ) (ns : List Number) (buffers : Buffers) → IsEmpty s p → AreFresh setting.env.pools (live s) pool 1 ns →
      ChangesOnly ns s.world.buffers buffers → m.state ≡ with_call (with_packet p (allocated setting.env.pools ns) (with_buffers buffers s)) →
      m.answers ≡ true ∷ [] → Effect setting s m
  Cloned : (p q pool : ℕ) (packet : Packet) (ns : List Number) → Holds s q packet → IsEmpty s p → AreFresh setting.env.pools (live s) pool (length packet) ns →
      m.state ≡ with_call (with_packet p (cloned ns packet) s) → m.answers ≡ true ∷ [] → Effect setting s m
  Freed : (p : ℕ) (packet : Packet) → Holds s p packet → m.state ≡ without_packet p s → m.answers ≡ [] → Effect setting s m
  Prepended : (p n : ℕ) (packet : Packet) → Holds s p packet → n ≤ headroom packet → IsHeadSole (live s) packet →
      m.state ≡ with_packet p (at_front (more_before n) packet) (with_buffers (zeroed_before n packet s.world.buffers) s) → m.answers ≡ [] → Effect setting s m
  Appended : (p n : ℕ) (packet : Packet) → Holds s p packet → n ≤ tailroom setting.env.pools packet → IsTailSole (live s) packet →
      m.state ≡ with_packet p (at_end (more_after n) packet) (with_buffers (zeroed_after n packet s.world.buffers) s) → m.answers ≡ [] → Effect setting s m
  Adjusted : (p n : ℕ) (packet : Packet) → Holds s p packet → n ≤ first_len packet → m.state ≡ with_packet p (at_front (less_before n) packet) s
      → m.answers ≡ [] → Effect setting s m
  Trimmed : (p n : ℕ) (packet : Packet) → Holds s p packet → n ≤ last_len packet → m.state ≡ with_packet p (at_end (less_after n) packet) s → m.answers ≡ []
      → Effect setting s m
  Chained : (p q : ℕ) (packet t : Packet) → Holds s p packet → Holds s q t → p ≢ q → length packet + length t ≤ max_segments →
      m.state ≡ without_packet q (with_packet p (packet ++ t) s) → m.answers ≡ [] → Effect setting s m
  Stored : (p offset w n : ℕ) (packet : Packet) → Holds s p packet → offset + w ≤ first_len packet → IsHeadSole (live s) packet →
      m.state ≡ with_buffers (stored offset w n packet s.world.buffers) s → m.answers ≡ [] → Effect setting s m
  Queued : (p : ℕ) (queue : Queue) (packet : Packet) (packets : List Packet) → Holds s p packet → packets_in queue s.world ≡ Some packets →
      m.state ≡ with_queue queue (packets ++ packet ∷ []) (without_packet p s) → m.answers ≡ [] → Effect setting s m

-- where a move leads: to the next label, to the one that the instruction names, or nowhere
abbrev pub LeadsOn : ℕ → Instr → Next → Type 0
LeadsOn label i (At to) = (to ≡ label + 1) ⊎ (label_of i ≡ Some to)
LeadsOn label i Ended = Unit {0}

-- a function that names, for each instruction that writes bytes of a packet, the packet's register
pub record NamesWritten (written : Instr → Option ℕ) : Type 0 where
  pub prepend : (p n : ℕ) → written (Prepend p n) ≡ Some p
  pub append : (p n : ℕ) → written (Append p n) ≡ Some p
  pub store : (p off : ℕ) (w : Width) (r : ℕ) → written (Store p off w r) ≡ Some p
  pub store_x : (p x off : ℕ) (w : Width) (r : ℕ) → written (StoreX p x off w r) ≡ Some p

-- an effect that writes bytes writes them in the packet of this register
abbrev pub WritesAt : {setting : Setting} {s : State} {m : Move} → Option ℕ → Effect setting s m → Type 0
WritesAt o (Prepended p n k holds le sole is none) = o ≡ Some p
WritesAt o (Appended p n k holds le sole is none) = o ≡ Some p
WritesAt o (Stored p offset w n k holds le sole is none) = o ≡ Some p
WritesAt o _ = Unit {0}

-- what an instruction did, and where it leads
pub record Did (setting : Setting) (label : ℕ) (s : State) (i : Instr) (m : Move) : Type 0 where
  pub effect : Effect setting s m
  pub leads : LeadsOn label i m.next
  pub writes : (written : Instr → Option ℕ) → NamesWritten written → WritesAt (written i) effect

-- no bytes are written
quiet : (written : Instr → Option ℕ) → NamesWritten written → Unit {0}
quiet written at = tt

module _ (setting : Setting) (label : ℕ) (s : State) (i : Instr) (m : Move) where
  did : (m' : Move) → m ≡ m' → (effect : Effect setting s m') → LeadsOn label i m'.next →
      ((written : Instr → Option ℕ) → NamesWritten written → WritesAt (written i) effect) → Did setting label s i m
  did m' is effect leads writes = subst (Did setting label s i) (sym is) (record { effect = effect; leads = leads; writes = writes })

  -- a test changes nothing, wherever it leads
  tested : (b : Bool) (l : ℕ) → label_of i ≡ Some l → m ≡ branches b label l s → Did setting label s i m
  tested true l names is = did _ is (Kept refl refl) (inr names) quiet
  tested false l names is = did _ is (Kept refl refl) (inl refl) quiet

  -- a packet leaves, or stays if the queue is full
  left : (p : ℕ) (queue : Queue) (l : ℕ) → label_of i ≡ Some l → Leaves setting.env label s p queue l m → Did setting label s i m
  left p queue l names (k, slots, packets, holds, has, there, is) = go (nat_lt (length packets + 1) slots) is
    where
      s' : State
      s' = with_queue queue (packets ++ k ∷ []) (without_packet p s)

      go : (b : Bool) → m ≡ cond b (goes_on label s') (moves_to l s) → Did setting label s i m
      go true is = did _ is (Queued p queue k packets holds there refl refl) (inl refl) quiet
      go false is = did _ is (Kept refl refl) (inr names) quiet

-- each instruction has one of these effects
pub did_of : (setting : Setting) (label : ℕ) (s : State) (i : Instr) (m : Move) → Acts setting label s i m → Did setting label s i m
did_of setting label s (Alloc p pool l) m (empty, there, call) = matched (is_denied setting s pool 1) _ _ call
    (λ is. did setting label s (Alloc p pool l) m _ is (Refused refl refl) (inr refl) quiet)
    (λ (ns, buffers, fresh, changes, is). did setting label s (Alloc p pool l) m _ is (Allocated p pool ns buffers empty fresh changes refl refl)
    (inl refl) quiet)
did_of setting label s (Clone p q pool l) m (k, holds, empty, there, call) = matched (is_denied setting s pool (length k)) _ _ call
    (λ is. did setting label s (Clone p q pool l) m _ is (Refused refl refl) (inr refl) quiet)
    (λ (ns, fresh, is). did setting label s (Clone p q pool l) m _ is (Cloned p q pool k ns holds empty fresh refl refl) (inl refl) quiet)
did_of setting label s (Free p) m (k, holds, is) = did setting label s (Free p) m _ is (Freed p k holds refl refl) (inl refl) quiet
did_of setting label s (Prepend p n) m (k, holds, le, sole, is) =
    did setting label s (Prepend p n) m _ is (Prepended p n k holds le sole refl refl) (inl refl) (λ f at. at.prepend p n)
did_of setting label s (Append p n) m (k, holds, le, sole, is) =
    did setting label s (Append p n) m _ is (Appended p n k holds le sole refl refl) (inl refl) (λ f at. at.append p n)
did_of setting label s (Adj p n) m (k, holds, le, is) = did setting label s (Adj p n) m _ is (Adjusted p n k holds le refl refl) (inl refl) quiet
did_of setting label s (Trim p n) m (k, holds, le, is) = did setting label s (Trim p n) m _ is (Trimmed p n k holds le refl refl) (inl refl) quiet
did_of setting label s (Chain p q) m (k, t, hk, ht, apart, few, is) = did setting label s (Chain p q) m _ is (Chained p q k t hk ht apart few refl refl)
    (inl refl) quiet
did_of setting label s (IfHead p n l) m (k, holds, is) = tested setting label s (IfHead p n l) m (nat_lt (headroom k) n) l refl is
did_of setting label s (IfTail p n l) m (k, holds, is) = tested setting label s (IfTail p n l) m (nat_lt (tailroom setting.env.pools k) n) l refl is
did_of setting label s (IfLen p n l) m (k, holds, is) = tested setting label s (IfLen p n l) m (nat_lt (first_len k) n) l refl is
did_of setting label s (IfLast p n l) m (k, holds, is) = tested setting label s (IfLast p n l) m (nat_lt (last_len k) n) l refl is
did_of setting label s (Load r p off w) m (k, holds, le, is) = did setting label s (Load r p off w) m _ is (Calculated _ refl refl) (inl refl) quiet
did_of setting label s (LoadX r p x off w) m (k, holds, le, is) = did setting label s (LoadX r p x off w) m _ is (Calculated _ refl refl) (inl refl) quiet
did_of setting label s (Store p off w r) m (k, holds, le, sole, is) = did setting label s (Store p off w r) m _ is
    (Stored p off (bytes_in w) (slice_index s.numbers r) k holds le sole refl refl) (inl refl) (λ f at. at.store p off w r)
did_of setting label s (StoreX p x off w r) m (k, holds, le, sole, is) = did setting label s (StoreX p x off w r) m _ is
    (Stored p (slice_index s.numbers x + off) (bytes_in w) (slice_index s.numbers r) k holds le sole refl refl) (inl refl) (λ f at. at.store_x p x off w r)
did_of setting label s (Tx p r l) m leaves = left setting label s (Tx p r l) m p (queues.Tx (slice_index s.numbers r)) l refl leaves
did_of setting label s (Enq p ring l) m leaves = left setting label s (Enq p ring l) m p (queues.Ring ring) l refl leaves
did_of setting label s Exit m (gone, is) = did setting label s Exit m _ is (Kept refl refl) tt quiet
did_of setting label s i m acts =
    did setting label s i m _ acts.2 (Calculated acts.0.1 refl refl) (calculated_next i setting.tables label s.numbers acts.0 acts.1) quiet

pub effect_of : (setting : Setting) (label : ℕ) (s : State) (i : Instr) (m : Move) → Acts setting label s i m → Effect setting s m
effect_of setting label s i m acts = (did_of setting label s i m acts).effect

-- What an instruction writes is not seen through other packets, nor are the bytes of buffers that it takes.
use Rattle.std.proofs.Common.{◌≡◌, ℕ, ◌+◌, ◌-◌, ◌≤◌, Bool, List, [], ◌∷◌, replicate, Some, refl, ◌∙◌, ap, arith, inl, inr}
use Rattle.std.specs.Prelude.{◌⊎◌}
use Rattle.dp_model.specs.declared.instr.Instr.{Instr}
use Rattle.dp_model.specs.declared.env.PoolSpec.{PoolSpec}
use Rattle.dp_model.specs.declared.env.PortSpec.{PortSpec}
use Rattle.dp_model.specs.Arithmetic.{big_endian}
use Rattle.dp_model.specs.Buffers.{Number, Buffers, bytes_of, with_bytes, overwritten}
use Rattle.dp_model.specs.Packets.{Segment, Packet, refs, IsHeadSole, IsTailSole, zeroed_before, zeroed_after, stored}
use Rattle.dp_model.specs.Machine.{Setting, World, State, live, Move, Acts, Holds}
use Rattle.dp_model.specs.Runs.{Reception, between}
use Rattle.dp_model.specs.Copies.{copy_of}
use Rattle.dp_model.specs.Laws.References.{refs-cons, refs_first, live_parts}
use Rattle.dp_model.specs.Laws.Stored.{bytes_other}
use Rattle.dp_model.specs.declared.queue.Queue.TheVariants.{Tx, Ring}
use Rattle.dp_model.specs.Laws.Effects.{Effect, Kept, Calculated, Refused, Allocated, Cloned, Freed, Prepended, Appended, Adjusted, Trimmed, Chained, Stored}
use Rattle.dp_model.specs.Laws.Effects.{Queued, NamesWritten, WritesAt, did_of}
use Rattle.dp_copies.specs.Seen.{written_register, IsBeside, IsQueued}
use Rattle.dp_copies.proofs.Unchanged.{Same, copy_same}
use Rattle.dp_copies.proofs.Writes.{apart, counts}
use Rattle.dp_copies.proofs.Taking.{quiet}
use Rattle.dp_copies.proofs.Beside.{refs_queued, refs_beside, refs_beside_written}

-- one buffer of the packet is written, which has one reference
record Writes (segments : List Segment) (j : Packet) (old new : Buffers) : Type 0 where
  buffer : Number
  bytes : List ℕ
  is : new ≡ with_bytes old buffer bytes
  sole : refs segments buffer ≡ 1
  part : 1 ≤ refs j buffer

-- prepend writes so
before_written : (segments : List Segment) (n : ℕ) (j : Packet) (old : Buffers) → IsHeadSole segments j →
    (zeroed_before n j old ≡ old) ⊎ Writes segments j old (zeroed_before n j old)
before_written segments n [] old sole = inl refl
before_written segments n (s ∷ rest) old sole =
    inr (record {
      buffer = s.buffer;
      bytes = overwritten (bytes_of old s.buffer) (s.offset - n) (replicate n 0);
      is = refl;
      sole = sole;
      part = refs_first s rest;
    })

-- store writes so
stored_written : (segments : List Segment) (offset w n : ℕ) (j : Packet) (old : Buffers) → IsHeadSole segments j →
    (stored offset w n j old ≡ old) ⊎ Writes segments j old (stored offset w n j old)
stored_written segments offset w n [] old sole = inl refl
stored_written segments offset w n (s ∷ rest) old sole =
    inr (record {
      buffer = s.buffer;
      bytes = overwritten (bytes_of old s.buffer) (s.offset + offset) (big_endian w n);
      is = refl;
      sole = sole;
      part = refs_first s rest;
    })

-- append writes so
after_written : (segments : List Segment) (n : ℕ) (j : Packet) (old : Buffers) → IsTailSole segments j →
    (zeroed_after n j old ≡ old) ⊎ Writes segments j old (zeroed_after n j old)
after_written segments n [] old sole = inl refl
after_written segments n (s ∷ []) old sole =
    inr (record {
      buffer = s.buffer;
      bytes = overwritten (bytes_of old s.buffer) (s.offset + s.len) (replicate n 0);
      is = refl;
      sole = sole;
      part = refs_first s [];
    })
after_written segments n (s ∷ t ∷ rest) old sole = further (after_written segments n (t ∷ rest) old sole)
  where
    further : (zeroed_after n (t ∷ rest) old ≡ old) ⊎ Writes segments (t ∷ rest) old (zeroed_after n (t ∷ rest) old) →
        (zeroed_after n (t ∷ rest) old ≡ old) ⊎ Writes segments (s ∷ t ∷ rest) old (zeroed_after n (t ∷ rest) old)
    further (inl e) = inl e
    further (inr w) = inr (record {
      buffer = w.buffer;
      bytes = w.bytes;
      is = w.is;
      sole = w.sole;
      part = omega (arith, w.part, refs-cons s (t ∷ rest) w.buffer);
    })

-- the packet is the same after a move
abbrev pub Stays : Setting → State → Packet → Move → Type 0
Stays c s k m = copy_of c.env.pools m.state.world.buffers k ≡ copy_of c.env.pools s.world.buffers k

-- a write is not seen through another packet
write_stays : (pools : List PoolSpec) (i : Instr) (s : State) (p : ℕ) (j k : Packet) (new : Buffers) → written_register i ≡ Some p → Holds s p j →
    IsBeside i s k → (new ≡ s.world.buffers) ⊎ Writes (live s) j s.world.buffers new → copy_of pools new k ≡ copy_of pools s.world.buffers k
unfolding Same
write_stays pools i s p j k new written holds beside (inl e) = ap (λ buffers. copy_of pools buffers k) e
write_stays pools i s p j k new written holds beside (inr w) =
    ap (λ buffers. copy_of pools buffers k) w.is
    ∙ copy_same pools s.world.buffers (with_bytes s.world.buffers w.buffer w.bytes) k
    (λ b one. bytes_other s.world.buffers w.buffer b w.bytes
    (apart s w.buffer b (refs k b) w.sole (omega (arith, counts j w.buffer b w.part, refs_beside_written i s p j k b written holds beside)) one))

-- the state by another name
moved : (c : Setting) (s s' : State) (k : Packet) (m : Move) → m.state ≡ s' → copy_of c.env.pools s'.world.buffers k ≡ copy_of c.env.pools s.world.buffers k →
    Stays c s k m
moved c s s' k m is e = ap (λ (s : State). copy_of c.env.pools s.world.buffers k) is ∙ e

-- nor is any other effect of an instruction
effect_stays : (c : Setting) (s : State) (i : Instr) (m : Move) (k : Packet) (effect : Effect c s m) → WritesAt (written_register i) effect → IsBeside i s k →
    Stays c s k m
unfolding Same
effect_stays c s i m k (Kept is _) at beside = moved c s _ k m is refl
effect_stays c s i m k (Calculated numbers is _) at beside = moved c s _ k m is refl
effect_stays c s i m k (Refused is _) at beside = moved c s _ k m is refl
effect_stays c s i m k (Allocated p pool ns buffers empty fresh changes is _) at beside = moved c s _ k m is
    (copy_same c.env.pools s.world.buffers buffers k
    (λ b one. changes.others b (quiet c.env.pools (live s) pool ns b fresh.each (omega (arith, one, refs_beside i s k b beside)))))
effect_stays c s i m k (Cloned p q pool j ns holds empty fresh is _) at beside = moved c s _ k m is refl
effect_stays c s i m k (Freed p j holds is _) at beside = moved c s _ k m is refl
effect_stays c s i m k (Prepended p n j holds le sole is _) at beside =
    moved c s _ k m is (write_stays c.env.pools i s p j k _ at holds beside (before_written (live s) n j s.world.buffers sole))
effect_stays c s i m k (Appended p n j holds le sole is _) at beside =
    moved c s _ k m is (write_stays c.env.pools i s p j k _ at holds beside (after_written (live s) n j s.world.buffers sole))
effect_stays c s i m k (Adjusted p n j holds le is _) at beside = moved c s _ k m is refl
effect_stays c s i m k (Trimmed p n j holds le is _) at beside = moved c s _ k m is refl
effect_stays c s i m k (Chained p q j t hj ht apart few is _) at beside = moved c s _ k m is refl
effect_stays c s i m k (Stored p offset w n j holds le sole is _) at beside =
    moved c s _ k m is (write_stays c.env.pools i s p j k _ at holds beside (stored_written (live s) offset w n j s.world.buffers sole))
effect_stays c s i m k (Queued p (Tx port) j packets holds there is _) at beside = moved c s _ k m is refl
effect_stays c s i m k (Queued p (Ring ring) j packets holds there is _) at beside = moved c s _ k m is refl

names_written : NamesWritten written_register
names_written = record { prepend = λ p n. refl; append = λ p n. refl; store = λ p off w r. refl; store_x = λ p x off w r. refl }

-- no step changes another packet
pub beside_stays : (c : Setting) (label : ℕ) (s : State) (i : Instr) (m : Move) (k : Packet) → Acts c label s i m → IsBeside i s k → Stays c s k m
beside_stays c label s i m k acts beside =
    let it = did_of c label s i m acts in
    effect_stays c s i m k it.effect (it.writes written_register names_written) beside

-- a record that is received is not seen through the packets in rings and transmit lists
pub queued_stays : (c : Setting) (spec : PortSpec) (bytes : List ℕ) (w : World) (k : Packet) (r : Reception c spec bytes w) → IsQueued w k
    → copy_of c.env.pools r.buffers k ≡ copy_of c.env.pools w.buffers k
unfolding Same
queued_stays c spec bytes w k r queued = copy_same c.env.pools w.buffers r.buffers k
    (λ b one. r.filled.others.others b (quiet c.env.pools (live (between w)) spec.pool r.numbers b r.fresh.each
    (omega (arith, one, live_parts (between w) b, refs_queued w k b queued))))

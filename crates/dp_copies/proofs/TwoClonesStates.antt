-- The states of the run by hand, each as the step before makes it.
use Rattle.std.proofs.Common.{ℕ, ◌+◌, List, [], ◌∷◌, ◌++◌, refl}
use Rattle.std.specs.Prelude.{slice_set}
use Rattle.dp_model.specs.declared.env.PoolSpec.{PoolSpec}
use Rattle.dp_model.specs.declared.queue.Queue.TheVariants.{Tx}
use Rattle.dp_model.specs.Buffers.{Number, Buffers, written}
use Rattle.dp_model.specs.Packets.{Segment, Packet, IsFresh, AreFresh, received, allocated, cloned, at_front, at_end, less_before, more_after, zeroed_after}
use Rattle.dp_model.specs.Packets.{stored}
use Rattle.dp_model.specs.Machine.{State, Move, Ended, with_step, goes_on, moves_to, is_given, with_packet, without_packet, with_buffers, with_queue}
use Rattle.dp_model.specs.Runs.{first_state}
use Rattle.dp_copies.specs.TwoClones.{one_port, before}

-- the buffers that were taken, in this order
abbrev pub number : ℕ → Number
number index = record { pool = 0; index = index }

-- one buffer is asked for
pub alone : {pools : List PoolSpec} {live : List Segment} {n : Number} → IsFresh pools live 0 n → AreFresh pools live 0 1 (n ∷ [])
alone fresh = record { count = refl; distinct = (tt, tt); each = (fresh, tt) }

-- ---- packets

abbrev pub whole : Packet
whole = received 130 (number 2 ∷ []) 2

abbrev pub cut : Packet
cut = at_front (less_before 1) whole

abbrev pub clone : Packet
clone = cloned (number 3 ∷ []) whole

abbrev pub joined : Packet
joined = clone ++ cut

abbrev pub fresh : Packet
fresh = allocated one_port.pools (number 1 ∷ [])

abbrev pub longer : Packet
longer = at_end (more_after 1) fresh

abbrev pub other_clone : Packet
other_clone = cloned (number 0 ∷ []) longer

-- ---- buffers

abbrev pub filled : Buffers
filled = written before.buffers (number 2) 128 (7 ∷ 8 ∷ [])

abbrev pub zeroed : Buffers
zeroed = zeroed_after 1 fresh filled

abbrev pub rewritten : Buffers
rewritten = stored 0 1 9 longer zeroed

-- ---- moves, and the states that they lead to

abbrev pub s0 : State
s0 = first_state whole 0 (record before { buffers = filled; calls = before.calls + 1 })

abbrev pub m0 : Move
m0 = is_given 0 (with_packet 1 fresh (with_buffers filled (with_step s0)))

abbrev pub m1 : Move
m1 = goes_on 1 (with_packet 1 longer (with_buffers zeroed (with_step m0.state)))

abbrev pub m2 : Move
m2 = is_given 2 (with_packet 2 clone (with_step m1.state))

abbrev pub m3 : Move
m3 = is_given 3 (with_packet 3 other_clone (with_step m2.state))

abbrev pub m4 : Move
m4 = goes_on 4 (with_packet 0 cut (with_step m3.state))

abbrev pub m5 : Move
m5 = goes_on 5 (without_packet 0 (with_packet 2 joined (with_step m4.state)))

abbrev pub m6 : Move
m6 = goes_on 6 (with_queue (Tx 0) (joined ∷ []) (without_packet 2 (with_step m5.state)))

abbrev pub m7 : Move
m7 = goes_on 7 (without_packet 3 (with_step m6.state))

-- a number is set
abbrev pub m8 : Move
m8 = moves_to 9 (record (with_step m7.state) { numbers = slice_set m7.state.numbers 1 9 })

abbrev pub m9 : Move
m9 = goes_on 9 (with_buffers rewritten (with_step m8.state))

abbrev pub m10 : Move
m10 = goes_on 10 (with_queue (Tx 0) (joined ∷ longer ∷ []) (without_packet 1 (with_step m9.state)))

abbrev pub m11 : Move
m11 = record { next = Ended; answers = []; state = with_step m10.state }

-- Packets other than the one that an instruction writes.
use Rattle.std.specs.Prelude.{◌≢◌, ℕ, ◌⊎◌, List, Option, Some, None, Contains}
use Rattle.dp_model.specs.declared.instr.Instr.{Instr}
use Rattle.dp_model.specs.declared.instr.Instr.TheVariants.{Prepend, Append, Store, StoreX}
use Rattle.dp_model.specs.Packets.{Packet}
use Rattle.dp_model.specs.Machine.{World, State, Holds}

-- the register of the packet whose bytes an instruction writes, if it writes any
abbrev pub written_register : Instr → Option ℕ
written_register (Prepend p n) = Some p
written_register (Append p n) = Some p
written_register (Store p off w r) = Some p
written_register (StoreX p x off w r) = Some p
written_register i = None

-- the packet is in one of the lists
abbrev pub IsListed : List (List Packet) → Packet → Type 0
IsListed lists k = (packets : List Packet) × Contains lists packets × Contains packets k

-- the packet is in a ring or in a transmit list
abbrev pub IsQueued : World → Packet → Type 0
IsQueued w k = IsListed w.rings k ⊎ IsListed w.outboxes k

-- the packet is in a ring, in a transmit list, or in a register other than the one that the instruction writes
abbrev pub IsBeside : Instr → State → Packet → Type 0
IsBeside i s k = ((q : ℕ) × (written_register i ≢ Some q) × Holds s q k) ⊎ IsQueued s.world k

-- A run by hand. The record's packet is cloned, loses a byte, is appended to its clone and sent. Another packet is cloned too; after that clone is
-- freed, it is written and sent. Its buffer held other bytes before.
use Rattle.std.specs.Prelude.{ℕ, Bool, true, List, [], ◌∷◌, replicate}
use Rattle.dp_model.specs.declared.instr.Instr.{Instr}
use Rattle.dp_model.specs.declared.instr.Instr.TheVariants.{Alloc, Free, Clone, Adj, Append, Chain, Set, Store, Tx, Exit}
use Rattle.dp_model.specs.declared.registers.Width.TheVariants.{One}
use Rattle.dp_model.specs.Environments.{Environment}
use Rattle.dp_model.specs.Machine.{Setting, World}
use Rattle.dp_model.specs.Runs.{Nodes, Arrival}

-- one port, over four buffers of 130 bytes
abbrev pub one_port : Environment
one_port = record {
  pools = record { count = 4; cache = 0; room = 130 } ∷ [];
  tables = 0;
  rings = [];
  ports = record { pool = 0; segs = 1; queue = 4 } ∷ [];
}

abbrev pub setting : Setting
setting = record { env = one_port; tables = []; pattern = [] }

abbrev pub program : List Instr
program =
    Alloc 1 0 11
    ∷ Append 1 1
    ∷ Clone 2 0 0 11
    ∷ Clone 3 1 0 11
    ∷ Adj 0 1
    ∷ Chain 2 0
    ∷ Tx 2 0 11
    ∷ Free 3
    ∷ Set 1 9
    ∷ Store 1 0 One 1
    ∷ Tx 1 0 11
    ∷ Exit
    ∷ []

abbrev pub nodes : Nodes
nodes = record { ports = program ∷ []; rings = [] }

-- one record, of two bytes
abbrev pub arrivals : List (Arrival ℕ)
arrivals = record { port = 0; time = 5; bytes = 7 ∷ 8 ∷ [] } ∷ []

-- all buffers hold bytes of earlier use
abbrev pub before : World
before = record {
  buffers = replicate 4 (replicate 130 6) ∷ [];
  rings = [];
  outboxes = [] ∷ [];
  calls = 0;
  steps = 0;
  cuts = 0;
}

-- the record, the other packet and the two clones get buffers
abbrev pub answers : List Bool
answers = true ∷ true ∷ true ∷ true ∷ []

-- what the port writes at time 5
abbrev pub captures : List (List (ℕ × List ℕ))
captures = ((5, 7 ∷ 8 ∷ 8 ∷ []) ∷ (5, 9 ∷ []) ∷ []) ∷ []

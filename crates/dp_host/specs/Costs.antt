-- What a C caller learns about the cost of a program.
use Rattle.std.specs.Prelude.{◌≡◌, ◌⊎◌, ℕ, List, Option, Some, None}
use Rattle.dp_model.specs.declared.instr.Instr.{Instr}
use Rattle.dp_lang.specs.Reading.{Reads}
use Rattle.dp_cost.specs.declared.costs.Cost.{Cost}
use Rattle.dp_cost.specs.Costs.{IsCost}
use Rattle.dp_host.specs.declared.numbers.CostStats.{CostStats}
use Rattle.dp_host.specs.declared.refusal.Refusal.TheVariants as refusal
use Rattle.dp_host.specs.Hosts.{refusal_number}

-- 1 if a program can jump back, else 0
abbrev pub jumps_number : Option ℕ → ℕ
jumps_number (Some label) = 1
jumps_number None = 0

-- the first label at which it can, else 0
abbrev pub label_number : Option ℕ → ℕ
label_number (Some label) = label
label_number None = 0

-- a cost, as the C caller sees it
abbrev pub stats_of : Cost → CostStats
stats_of cost = record { steps = cost.steps; jumps_back = jumps_number cost.back; label = label_number cost.back }

-- the text reads as a program, and this is its cost
pub record IsCostOfText (text : List ℕ) (stats : CostStats) : Type 0 where
  pub program : List Instr
  pub reads : Reads text program
  pub cost : Cost
  pub is_cost : IsCost program cost
  pub stats_are : stats ≡ stats_of cost

-- the text reads as no program
abbrev pub NoProgram : List ℕ → Type 0
NoProgram text = (program : List Instr) → Reads text program → ⊥

-- what the call returns: 0, and the cost of the program; or that there is none, or that memory was refused, and then nothing changes
abbrev pub CostAnswers : List ℕ → CostStats → CostStats → ℕ → Type 0
CostAnswers text old new n =
    ((n ≡ 0) × IsCostOfText text new)
    ⊎ (((n ≡ refusal_number refusal.NoProgram) × NoProgram text × (new ≡ old)) ⊎ ((n ≡ refusal_number refusal.NoMemory) × (new ≡ old)))

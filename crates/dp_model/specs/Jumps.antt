-- Programs that only jump ahead.
use Rattle.std.specs.Prelude.{◌≡◌, ℕ, ◌<◌, List, Some, slice_get}
use Rattle.dp_model.specs.declared.instr.Instr.{Instr}
use Rattle.dp_model.specs.Needs.{label_of}

-- each label that is named comes after its instruction
abbrev pub IsForward : List Instr → Type 0
IsForward program =
    (label to : ℕ) (i : Instr) → slice_get program label ≡ Some i → label_of i ≡ Some to → label < to

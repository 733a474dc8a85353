-- A text that is at fault reads as no program.
use Rattle.std.proofs.Common.{◌≡◌, ℕ, List, Err}
use Rattle.dp_lang.specs.declared.cause.Fault.{Fault}
use Rattle.dp_lang.specs.Reading.{program_of}
use Rattle.dp_host.specs.Costs.{NoProgram}

pub no_program : (text : List ℕ) (fault : Fault) → program_of text ≡ Err fault → NoProgram text
no_program text fault failed program reads = cc

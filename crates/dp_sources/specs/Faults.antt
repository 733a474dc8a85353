-- The lines of faults, and their exit statuses.
use Rattle.std.specs.Prelude.{◌≡◌, ℕ, List, ◌++◌, codes}
use Rattle.dp_load.specs.Causes as pipe
use Rattle.dp_load.specs.declared.error.PipeError.{PipeError}
use Rattle.dp_load.specs.declared.error.PipeError.TheVariants as error
use Rattle.dp_sources.specs.declared.fault.Fault.{Fault}
use Rattle.dp_sources.specs.declared.fault.Fault.TheVariants as fault

-- 4 for lack of memory, otherwise 3
abbrev pub status_of : Fault → ℕ
status_of fault.Memory = 4
status_of _ = 3

-- the line of a fault, without its newline
abbrev pub text_of : Fault → List ℕ
text_of fault.Memory = codes "fault: memory"
text_of (fault.File name) = codes "fault: file " ++ name.now
text_of (fault.Pipeline error) = codes "fault: pipeline " ++ pipe.text_of error

-- the fault of a pipeline that is not loaded
abbrev pub IsFaultOf : PipeError → Fault → Type 0
IsFaultOf error.Memory it = it ≡ fault.Memory
IsFaultOf cause it = it ≡ fault.Pipeline cause

-- Internal, no public contract names it: why a line was not read.
use Rattle.std.specs.Prelude.{◌≡◌, ℕ, Result, Ok, Err}
use Rattle.dp_lang.specs.declared.cause.Cause.{Cause}
use Rattle.dp_lang.specs.declared.cause.AsmError.{AsmError}
use Rattle.dp_lang.specs.declared.cause.AsmError.TheVariants as texts
use Rattle.dp_lang.specs.declared.cause.LineError.{LineError}
use Rattle.dp_lang.specs.declared.cause.LineError.TheVariants as lines
use Rattle.dp_lang.specs.Causes.{least}

-- the lesser cause; lack of memory comes before any
abbrev pub least_error : LineError → LineError → LineError
least_error lines.Memory e = lines.Memory
least_error (lines.Cause c) lines.Memory = lines.Memory
least_error (lines.Cause c) (lines.Cause d) = lines.Cause (least c d)

abbrev pub error_at : ℕ → LineError → AsmError
error_at line lines.Memory = texts.Memory
error_at line (lines.Cause c) = texts.Fault (record { line = line; cause = c })

-- the code stops for the reason that the definition has, or for lack of memory
abbrev pub StopsAs : {Y : Type 0} → LineError → Result Y Cause → Type 0
StopsAs lines.Memory read = Unit {0}
StopsAs (lines.Cause c) read = read ≡ Err c

abbrev pub ReadsAs : {X Y : Type 0} → (X → Y) → Result X LineError → Result Y Cause → Type 0
ReadsAs view (Ok x) read = read ≡ Ok (view x)
ReadsAs view (Err e) read = StopsAs e read

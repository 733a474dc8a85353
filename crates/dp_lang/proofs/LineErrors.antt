-- The lesser of two errors of a line.
use Rattle.std.proofs.Common.{Result, refl}
use Rattle.dp_lang.specs.declared.cause.Cause.{Cause}
use Rattle.dp_lang.specs.declared.cause.LineError.{LineError}
use Rattle.dp_lang.specs.declared.cause.LineError.TheVariants as lines
use Rattle.dp_lang.specs.Reading.{both}
use Rattle.dp_lang.specs.LineErrors.{least_error, StopsAs}

pub both_stop : {A B : Type 0} (e d : LineError) (r : Result A Cause) (s : Result B Cause) → StopsAs e r → StopsAs d s → StopsAs (least_error e d) (both r s)
both_stop lines.Memory d r s h g = tt
both_stop (lines.Cause c) lines.Memory r s h g = tt
both_stop (lines.Cause c) (lines.Cause d) r s h g = rw (h, g) refl

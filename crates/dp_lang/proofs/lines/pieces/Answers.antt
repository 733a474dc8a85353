-- `pieces`: a line has at least one piece.
use Rattle.std.proofs.Common.{◌≡◌, ◌<◌, ℕ, Bool, List, length, map, Result, Ok, Err, Bor, ap, arith}
use Rattle.std.specs.Prelude.{IfOk}
use Rattle.std.specs.Global.{Vec}
use Rattle.std.specs.List.{slice_split}
use Rattle.std.proofs.lemmas.List.{length-map}
use Rattle.std.proofs.lemmas.List.Splits.{length-slice_split}
use Rattle.dp_lang.specs.Lines as spec
use Rattle.dp_lang.proofs.lines.pieces.Goals as goal

some : {E : Type 0} (p : ℕ → Bool) (bytes : List ℕ) (r : Result (Vec (Bor (List ℕ))) E) → IfOk r (λ v. map (λ part. part.now) v.items ≡ slice_split p bytes) →
    IfOk r (λ v. 0 < length v.items)
some p bytes (Ok v) h = omega (arith, length-map v.items (λ (part : Bor (List ℕ)). part.now), ap length h, length-slice_split p bytes)
some p bytes (Err e) h = tt

pub returns-clause-some : goal.returns-clause-some
returns-clause-some c = some spec.is_colon c.trim.result.now c.split.result c.split.ensures

-- What follows a result that is known.
use Rattle.std.proofs.Common.{◌≡◌, Result, Ok, Err}
use Rattle.std.specs.Prelude.{OnOk, IfErr}

pub drained_ok : {A E : Type 0} (r : Result A E) {x : A} (P : Type 0) → r ≡ Ok x → OnOk r P → P
drained_ok r P is h = rw is at h

pub stopped_err : {A E : Type 0} (r : Result A E) (x : E) (P : E → Type 0) → r ≡ Err x → IfErr r P → P x
stopped_err r x P is h = rw is at h

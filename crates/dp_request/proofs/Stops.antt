-- Results and faults.
use Rattle.std.proofs.Common.{◌≡◌, ◌⊎◌, inl, inr, ℕ, Result, Ok, Err, IfErr}
use Rattle.dp_sources.specs.{declared.fault.Fault.Fault, Faults.status_of}
use Rattle.dp_sources.specs.declared.fault.Fault.TheVariants as fault

-- where a result is `Err`, one fact of its error gives another
pub map_err : {A B : Type 0} {P Q : B → Type 0} (r : Result A B) → ((b : B) → P b → Q b) → IfErr r P → IfErr r Q
map_err (Ok a) more p = p
map_err (Err b) more p = more b p

-- a fault has status 3 or 4
pub fault_status : (f : Fault) (s : ℕ) → s ≡ status_of f → (s ≡ 3) ⊎ (s ≡ 4)
fault_status fault.Memory s e = inr e
fault_status (fault.File name) s e = inl e
fault_status (fault.Pipeline error) s e = inl e

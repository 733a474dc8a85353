-- An index that is taken and put back.
use Rattle.std.proofs.Common.{◌≡◌, ℕ, zero, suc, Bool, true, false, List, [], ◌∷◌, slice_get, Some, refl, ap}
use Rattle.std.specs.Prelude.{unwrap_or}
use Rattle.std.proofs.lemmas.Bool.{true≢false}
use Rattle.std.proofs.lemmas.Option.{none-some}
use Rattle.dp_pool.specs.Queues.{taken, back}

-- it is out
pub taken_is_out : (out : List Bool) (i : ℕ) → slice_get out i ≡ Some false → slice_get (taken i out) i ≡ Some true
taken_is_out [] i is = absurd (none-some false is)
taken_is_out (b ∷ out) zero is = refl
taken_is_out (b ∷ out) (suc i) is = taken_is_out out i is

-- and then all are as before
pub back_taken : (out : List Bool) (i : ℕ) → slice_get out i ≡ Some false → back i (taken i out) ≡ out
back_taken [] i is = absurd (none-some false is)
back_taken (true ∷ out) zero is = absurd (true≢false (ap (λ o. unwrap_or o false) is))
back_taken (false ∷ out) zero is = refl
back_taken (b ∷ out) (suc i) is = ap (λ l. b ∷ l) (back_taken out i is)

-- The units of time of inputs stay, whatever more is read of them.
use Rattle.std.proofs.Common.{◌≡◌, ℕ, zero, suc, List, [], ◌∷◌, Some, sym, ◌∙◌, ap}
use Rattle.std.specs.Prelude.{slice_get, slice_set}
use Rattle.std.proofs.lemmas.Option.{same_Some}
use Rattle.dp_pipe.specs.Forwarding.{Input, units_of}

pub units_set : (inputs : List Input) (n : ℕ) (i i' : Input) → slice_get inputs n ≡ Some i → i'.unit ≡ i.unit → units_of (slice_set inputs n i')
    ≡ units_of inputs
units_set [] n i i' e same = cc
units_set (x ∷ inputs) zero i i' e same = ap (λ u. u ∷ units_of inputs) (same ∙ sym (ap (λ (j : Input). j.unit) (same_Some x i e)))
units_set (x ∷ inputs) (suc n) i i' e same = ap (λ l. x.unit ∷ l) (units_set inputs n i i' e same)

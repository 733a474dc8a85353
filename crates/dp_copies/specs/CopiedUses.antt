-- Uses in stretches in the machine of copies: in each stretch it has the routes of that moment.
use Rattle.std.specs.Prelude.{◌≡◌, ℕ, Bool, List, [], ◌∷◌, Some}
use Rattle.dp_model.specs.Environments.{Environment}
use Rattle.dp_model.specs.CopyMachine.{CopyState, copy_start, copy_run}
use Rattle.dp_model.specs.Runs.{Nodes}
use Rattle.dp_model.specs.Uses.{Stretch, answers_of}

-- the copies run these stretches, the latest first, with this many steps allowed for each node run, and each has the captures that it showed
abbrev pub CopiesUse : {T : Type 0} → Environment → Nodes → ℕ → List (Stretch T) → CopyState → CopyState → Type 0
CopiesUse env nodes fuel [] x z = z ≡ x
CopiesUse env nodes fuel (s ∷ earlier) x z =
    (y : CopyState) × CopiesUse env nodes fuel earlier x y × (copy_run env s.tables fuel nodes s.arrivals y ≡ Some (s.shown.captures, z))

-- with enough steps, from the start, each stretch has these captures, all allocation calls get exactly these answers, and this many node runs are cut
pub record Shown {T : Type 0} (env : Environment) (nodes : Nodes) (stretches : List (Stretch T)) (cuts : ℕ) : Type 0 where
  pub fuel : ℕ
  pub state : CopyState
  pub copies : CopiesUse env nodes fuel stretches (copy_start env (answers_of stretches)) state
  pub all_answered : state.to_answer ≡ []
  pub cuts_are : state.cuts ≡ cuts

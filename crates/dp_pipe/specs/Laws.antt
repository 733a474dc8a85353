-- Internal: the nodes of a checked plan, as an engine takes them.
use Rattle.std.specs.Prelude.{◌≡◌, ℕ, ◌-◌, ◌<◌, ◌≤◌, ◌⊎◌, List, length, Some, slice_get}
use Rattle.std.proofs.Common.{ap, arith, inl, inr, ◌∙◌}
use Rattle.std.proofs.lemmas.Bool.{cases_lt}
use Rattle.dp_model.specs.Environments.{Environment}
use Rattle.dp_model.specs.Rules.{Question}
use Rattle.dp_check.specs.Faults.{IsChecked}
use Rattle.dp_engine.specs.Schemes.{AreNodes}
use Rattle.dp_load.specs.Pipelines.{HasNodes}

-- nodes of a pipeline are those of an engine
pub are_nodes : (env : Environment) (nodes : List Question) → HasNodes env nodes → AreNodes env nodes
are_nodes env nodes h = record {
  many = h.count;
  ports = λ k q l at. ((h.ports k q l at).env_is, (h.ports k q l at).entry_is);
  rings = λ k q at. ((h.rings k q at).env_is, (h.rings k q at).entry_is);
}

-- each of their programs is checked
pub all_checked : (env : Environment) (nodes : List Question) → HasNodes env nodes → (k : ℕ) (question : Question) → slice_get nodes k ≡ Some question
    → IsChecked question
all_checked env nodes h k question at = go (cases_lt k (length env.ports))
  where
    go : (k < length env.ports) ⊎ (length env.ports ≤ k) → IsChecked question
    go (inl less) = (h.ports k question less at).checked
    go (inr most) = (h.rings (k - length env.ports) question (ap (slice_get nodes) (omega (arith, most)) ∙ at)).checked

-- A diagnosis of the whole program.
use Rattle.std.proofs.Common.{◌≡◌, false, length, Some, ◌∙◌, ap, sym, inl, arith}
use Rattle.std.proofs.lemmas.Bool.{eq-eqb}
use Rattle.dp_model.specs.declared.rule.Rule.TheVariants.{J2}
use Rattle.dp_model.specs.Rules.{Question, begins_well}
use Rattle.dp_check.specs.declared.reason.Reason.{Reason}
use Rattle.dp_check.specs.Diagnoses.{rule_of, IsDiagnosis, SaysOfWhole}
use Rattle.dp_check.proofs.RuleLemmas.{second_fails}

-- where the entry's row is at fault, that is the diagnosis
pub begins_badly : (q : Question) (reason : Reason) → length q.rows ≡ length q.program → begins_well q ≡ false → rule_of reason ≡ J2 → SaysOfWhole q reason →
    IsDiagnosis q (record { label = 0; reason = reason })
begins_badly q reason same fails rule says = record {
  refused = (second_fails q (eq-eqb (length q.rows) (length q.program) same) fails ∙ ap Some (sym rule), λ earlier less. absurd (omega arith));
  explained = inl says;
}

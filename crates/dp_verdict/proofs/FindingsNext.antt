-- The findings on nodes, one after another.
use Rattle.std.proofs.Common.{ℕ, ◌+◌, List, Option, sym, subst, add-one}
use Rattle.dp_sources.specs.{declared.subject.Subject.Subject, Subjects.entry_at}
use Rattle.dp_load.specs.Files.{FileMap}
use Rattle.dp_verdict.specs.{declared.report.Finding.Finding, Judging.AreFindings, Judging.IsNext}

pub findings_next : (contents : Option FileMap) (subject : Subject) (index : ℕ) (old new : List Finding) → AreFindings contents subject index old
    → IsNext contents subject (entry_at index) old new → AreFindings contents subject (index + 1) new
findings_next contents subject index old new before next =
    subst (λ (n : ℕ). AreFindings contents subject n new) (sym (add-one index)) (old, before, next)

-- The rest of the group has its name.
use Rattle.std.proofs.Common.{sym, ◌∙◌, ap}
use Rattle.dp_model.specs.Rows.{renamed}
use Rattle.dp_check.proofs.RowLemmas.{freed_some}
use Rattle.dp_check.proofs.groups.freed.Goals as goal

pub returns-in-Some : goal.returns-in-Some
returns-in-Some c =
    c.renamed.ensures ∙ (ap (λ r. renamed r c.in-Some.group) c.emptied.ensures
    ∙ freed_some c.args.row.now c.args.packet c.in-Some.group (sym c.group_at.ensures ∙ c.in-Some.is))

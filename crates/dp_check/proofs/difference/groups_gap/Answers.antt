-- Register by register.
use Rattle.std.proofs.Common.{◌∙◌, ap}
use Rattle.std.specs.Option.{option_and_then}
use Rattle.dp_model.specs.Groups.{group_of}
use Rattle.dp_check.specs.Diagnoses.{is_kept}
use Rattle.dp_check.proofs.GapLemmas.{passed, unpassed, first_unpassed}
use Rattle.dp_check.proofs.difference.groups_gap.Goals as goal

pub loop-member-preserved : goal.loop-member-preserved
loop-member-preserved c = record {
  all =
      c.loop-member.invariant.all
      ∙ passed (is_kept c.args.facts.now c.args.others.now) c.args.others.now c.loop-member.member c.in_default.ensures.none;
  first =
      c.loop-member.invariant.first
      ∙ unpassed (is_kept c.args.facts.now c.args.others.now) c.args.others.now c.loop-member.member c.in_default.ensures.none;
}

pub returns-in-Some-clause-group : goal.returns-in-Some-clause-group
returns-in-Some-clause-group c =
    ap (option_and_then group_of) c.loop-member.invariant.first
    ∙ first_unpassed (is_kept c.args.facts.now c.args.others.now) group_of c.args.others.now c.loop-member.member c.in-Some.found.group c.in-Some.ensures.group

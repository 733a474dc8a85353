use Rattle.dp_engine.specs.Steps.{setting_in}
use Rattle.dp_engine.proofs.Steps.{Allocates, allocates_to}
use Rattle.dp_engine.proofs.acts.alloc.Goals as goal

pub returns-clause-acts : goal.returns-clause-acts
returns-clause-acts c =
    let S = setting_in c.args.setting.now in
    let did : Allocates S c.args.m.now c.alloc.new.self c.args.into c.args.pool c.alloc.result = record {
      denied = c.alloc.ensures.denied;
      refused = c.alloc.ensures.refused;
      given = c.alloc.ensures.given;
    } in
    allocates_to S c.args.label c.args.m.now c.alloc.new.self c.args.into c.args.pool c.args.refused _ c.alloc.result c.requires.has did
    c.branch-alloc.ensures.leads

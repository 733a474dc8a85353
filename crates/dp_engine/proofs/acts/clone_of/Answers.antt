use Rattle.dp_engine.specs.Steps.{setting_in}
use Rattle.dp_engine.proofs.Steps.{Clones, clones_to}
use Rattle.dp_engine.proofs.acts.clone_of.Goals as goal

pub returns-clause-acts : goal.returns-clause-acts
returns-clause-acts c =
    let S = setting_in c.args.setting.now in
    let did : Clones S c.args.m.now c.clone_of.new.self c.args.into c.args.from c.args.pool c.clone_of.result = record {
      denied = c.clone_of.ensures.denied;
      refused = c.clone_of.ensures.refused;
      given = c.clone_of.ensures.given;
    } in
    clones_to S c.args.label c.args.m.now c.clone_of.new.self c.args.into c.args.from c.args.pool c.args.refused _ c.clone_of.result c.requires.has did
    c.branch-clone_of.ensures.leads

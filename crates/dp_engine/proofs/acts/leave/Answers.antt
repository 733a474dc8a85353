use Rattle.dp_engine.proofs.Steps.{Moves, queue_there, leaves_to}
use Rattle.dp_engine.proofs.acts.leave.Goals as goal

pub move_to-requires-clause-there : goal.move_to-requires-clause-there
move_to-requires-clause-there c =
    queue_there c.args._setting.now.env c.args.label c.args.m.now c.args.packet c.args.queue c.args.full c.requires.fits c.requires.has

pub returns-clause-acts : goal.returns-clause-acts
returns-clause-acts c =
    let did : Moves c.args.queue c.args.m.now c.move_to.new.self c.args.packet c.move_to.result = record {
      taken = c.move_to.ensures.taken;
      sent = c.move_to.ensures.sent;
      full = c.move_to.ensures.full;
    } in
    leaves_to c.args._setting.now.env c.args.label c.args.m.now c.move_to.new.self c.args.packet c.args.queue c.args.full _ c.move_to.result c.requires.fits
    c.requires.has did c.branch-move_to.ensures.leads

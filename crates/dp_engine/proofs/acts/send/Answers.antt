use Rattle.std.proofs.Common.{arith}
use Rattle.std.specs.Prelude.{slice_index}
use Rattle.dp_engine.proofs.Steps.{port_small}
use Rattle.dp_engine.proofs.acts.send.Goals as goal

pub overflow_cast-number : goal.overflow_cast-number
overflow_cast-number c =
    let port = slice_index c.args.m.now.state.numbers c.args.port in
    omega (arith, c.number.ensures, port_small c.args.setting.now.env c.args.label c.args.m.now c.args.packet port c.args.full c.requires.fits c.requires.has)

-- What a context keeps for a port is a program.
use Rattle.std.proofs.Common.{length, ap, arith}
use Rattle.dp_lang.specs.Programs.{IsProgram}
use Rattle.dp_engine.specs.Schemes.{Scheme}
use Rattle.dp_engine.proofs.context.Context.port_program.Goals as goal
use Rattle.dp_engine.proofs.Filled.{all_at}

pub returns-clause-program : goal.returns-clause-program
returns-clause-program g c =
    rw (c.index-deref-from.is, c.from.ensures, c.deref.ensures.0) (all_at IsProgram _ c.args.port _
    (omega (arith, c.requires, ap (λ (s : Scheme). length s.setting.env.ports) c.self.view_is, c.self.invariant.pipeline.ports)) c.self.invariant.ports)

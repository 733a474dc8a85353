use Rattle.std.proofs.Common.{◌∙◌, ap, Some}
use Rattle.dp_engine.proofs.GivingUp.{holds_some, empty_none}
use Rattle.dp_engine.proofs.machine.Machine.holds.Goals as goal

pub returns-clause-some : goal.returns-clause-some
returns-clause-some c held =
    holds_some _ _ c.args.p c.self.view_is (c.is_held_in.ensures ∙ ap Some held)

pub returns-clause-none : goal.returns-clause-none
returns-clause-none c empty =
    empty_none _ _ c.args.p c.self.view_is (c.is_held_in.ensures ∙ ap Some empty)

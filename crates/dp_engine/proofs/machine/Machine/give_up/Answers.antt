use Rattle.dp_engine.proofs.GivingUp.{holds_some, holds_none}
use Rattle.dp_engine.proofs.machine.Machine.give_up.Goals as goal

pub free-requires : goal.free-requires
free-requires c = holds_some _ _ c.args.p c.self.view_is c.if-is_held_in.ensures

pub returns-else-is_held_in : goal.returns-else-is_held_in
returns-else-is_held_in c = holds_none _ _ c.args.p c.self.view_is c.if-is_held_in.ensures

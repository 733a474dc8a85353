use Rattle.std.proofs.Common.{◌<◌, sym, subst}
use Rattle.dp_engine.proofs.Pushing.{queue_there, list_at, slots_at}
use Rattle.dp_engine.proofs.machine.Machine.count.Goals as goal

pub count-requires : goal.count-requires
count-requires c = queue_there c.self.inside _ c.self.view_is c.args.queue c.requires.there

pub returns-clause-list : goal.returns-clause-list
returns-clause-list c = list_at c.self.inside _ c.self.view_is c.args.queue c.count.result c.requires.there c.count.ensures.value

pub returns-clause-bound : goal.returns-clause-bound
returns-clause-bound c =
    subst (λ n. c.count.result < n) (sym (slots_at c.self.inside _ c.self.view_is c.args.queue)) c.count.ensures.bound

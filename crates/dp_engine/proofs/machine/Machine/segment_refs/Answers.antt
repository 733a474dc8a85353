use Rattle.std.proofs.Common.{sym, ◌∙◌}
use Rattle.dp_engine.proofs.Counts.{refs_same}
use Rattle.dp_engine.proofs.Registers.{handle, held, counts}
use Rattle.dp_engine.proofs.machine.Machine.segment_refs.Goals as goal

pub handle_in-packet-requires : goal.handle_in-packet-requires
handle_in-packet-requires c = let (k, holds, _) = c.requires in handle _ _ c.args.p k c.self.view_is holds

pub refs-requires : goal.refs-requires
refs-requires c = let (k, holds, less) = c.requires in (k, (held c.self.view_is c.self.invariant c.handle_in-packet.ensures holds).has, less)

pub returns : goal.returns
returns c k s holds here =
    let there = held c.self.view_is c.self.invariant c.handle_in-packet.ensures holds in
    c.refs.ensures k there.has s here ∙ sym (refs_same _ _ s.buffer (counts _ _ c.self.view_is c.self.invariant))

-- Two packets joined: what their registers hold is derived once, and each goal is one step from there.
use Rattle.dp_model.specs.Packets.{Packet}
use Rattle.dp_model.specs.Machine.{Holds}
use Rattle.dp_engine.specs.MachineParts.{parts_of}
use Rattle.dp_engine.proofs.Handles.{Held}
use Rattle.dp_engine.proofs.Registers.{handle, held, apart, chained}
use Rattle.dp_engine.proofs.machine.Machine.chain.Goals as goal
use Rattle.dp_engine.proofs.machine.Machine.chain.Goals.{After-handle_in-tail}

-- each handle has its packet
both : (c : After-handle_in-tail) (k t : Packet) → Holds c.args.self.now.state c.args.front k → Holds c.args.self.now.state c.args.back t
    → Held (parts_of c.self.inside) c.args.front c.handle_in-head.result k × Held (parts_of c.self.inside) c.args.back c.handle_in-tail.result t
both c k t holds holds' = (
  held c.self.view_is c.self.invariant c.handle_in-head.ensures holds,
  held c.self.view_is c.self.invariant c.handle_in-tail.ensures holds',
)

pub handle_in-head-requires : goal.handle_in-head-requires
handle_in-head-requires c = let (k, _, holds, _, _, _) = c.requires in handle _ _ c.args.front k c.self.view_is holds

pub handle_in-tail-requires : goal.handle_in-tail-requires
handle_in-tail-requires c = let (_, t, _, holds, _, _) = c.requires in handle _ _ c.args.back t c.self.view_is holds

pub chain-requires-clause-two : goal.chain-requires-clause-two
chain-requires-clause-two c =
    let (k, t, holds, holds', ne, _) = c.requires in
    let (front, back) = both (goal.at.chain-requires-clause-two c).After-handle_in-tail k t holds holds' in
    apart _ c.args.front c.args.back _ _ front.once_held ne front.here back.here

pub chain-requires-clause-few : goal.chain-requires-clause-few
chain-requires-clause-few c =
    let (k, t, holds, holds', _, few) = c.requires in
    let (front, back) = both (goal.at.chain-requires-clause-few c).After-handle_in-tail k t holds holds' in
    (k, front.has, (t, back.has, few))

pub invariant_of-self : goal.invariant_of-self
invariant_of-self c =
    let (k, t, holds, holds', ne, _) = c.requires in
    let (front, back) = both (goal.at.invariant_of-self c).After-handle_in-tail k t holds holds' in
    rw (c.from.ensures, c.number.ensures.same, c.empty.ensures) (chained c.self.view_is c.self.invariant ne front back c.chain.ensures.packets).stand

pub returns : goal.returns
returns c k t holds holds' =
    let (_, _, _, _, ne, _) = c.requires in
    let (front, back) = both (goal.at.returns c).After-handle_in-tail k t holds holds' in
    rw (c.from.ensures, c.number.ensures.same, c.empty.ensures, c.chain.ensures.zones)
    (chained c.self.view_is c.self.invariant ne front back c.chain.ensures.packets).state

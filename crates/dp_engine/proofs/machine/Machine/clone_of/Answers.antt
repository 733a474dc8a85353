-- A clone of a packet: what its register holds, and the result of the call, are derived once, and each goal is one step from there.
use Rattle.std.proofs.Common.{◌≡◌, length, sym}
use Rattle.dp_model.specs.Packets.{Packet, cloned}
use Rattle.dp_model.specs.Machine.{Holds}
use Rattle.dp_engine.specs.MachineParts.{parts_of}
use Rattle.dp_engine.specs.Steps.{setting_in}
use Rattle.dp_engine.proofs.Handles.{Held}
use Rattle.dp_engine.proofs.Registers.{Taken, handle, held, taken, too_few, keeps_bytes, called}
use Rattle.dp_engine.proofs.machine.Machine.clone_of.Goals as goal
use Rattle.dp_engine.proofs.machine.Machine.clone_of.Goals.{After-handle_in-source, In-Some}

-- the handle has the packet
there : (c : After-handle_in-source) (k : Packet) → Holds c.args.self.now.state c.args.from k →
    Held (parts_of c.self.inside) c.args.from c.handle_in-source.result k
there c k holds = held c.self.view_is c.self.invariant c.handle_in-source.ensures holds

-- the clone that is granted
given : (c : In-Some) (k : Packet) → Held (parts_of c.self.inside) c.args.from c.handle_in-source.result k
    → Taken (setting_in c.args.setting.now) (parts_of c.self.inside) c.clone_of.new.self.store c.args.self.now c.args.into c.args.pool
    (length k) c.in-Some.packet (λ ns. cloned ns k) (λ ns old new. new ≡ old)
given c k h =
    taken c.self.view_is c.self.invariant c.requires.empty c.requires.pools (rw c.from.ensures at (c.in-Some.ensures.packets k h.has))

pub handle_in-source-requires : goal.handle_in-source-requires
handle_in-source-requires c = let (k, holds) = c.requires.holds in handle _ _ c.args.from k c.self.view_is holds

pub clone_of-requires-clause-live : goal.clone_of-requires-clause-live
clone_of-requires-clause-live c =
    let (k, holds) = c.requires.holds in
    (k, (there (goal.at.clone_of-requires-clause-live c).After-handle_in-source k holds).has, tt)

pub invariant_of-self-in-Some : goal.invariant_of-self-in-Some
invariant_of-self-in-Some c =
    let here = goal.at.invariant_of-self-in-Some c in
    let (k, holds) = c.requires.holds in
    rw (c.put.ensures, c.number-in-Some.ensures, c.from-in-Some.ensures, c.number.ensures.same)
    (given here.In-Some k (there here.After-handle_in-source k holds)).stand

pub invariant_of-self-in-None : goal.invariant_of-self-in-None
invariant_of-self-in-None c =
    let (k, holds) = c.requires.holds in
    let h = there (goal.at.invariant_of-self-in-None c).After-handle_in-source k holds in
    rw ((c.in-None.ensures.packets k h.has).1) c.self.invariant

pub returns-in-Some-clause-denied : goal.returns-in-Some-clause-denied
returns-in-Some-clause-denied c k holds =
    let here = goal.at.returns-in-Some-clause-denied c in
    sym ((given here.In-Some k (there here.After-handle_in-source k holds)).allowed (sym (rw c.pattern.ensures at c.if-is_listed.ensures)))

pub returns-in-Some-clause-given : goal.returns-in-Some-clause-given
returns-in-Some-clause-given c _ k holds =
    let here = goal.at.returns-in-Some-clause-given c in
    let t = given here.In-Some k (there here.After-handle_in-source k holds) in
    rw (c.put.ensures, c.number-in-Some.ensures, c.from-in-Some.ensures, c.number.ensures.same, c.clone_of.ensures.zones) (
      t.ns,
      t.fresh,
      keeps_bytes _ _ _ _ _ t.changes t.state,
    )

pub returns-in-None-clause-denied : goal.returns-in-None-clause-denied
returns-in-None-clause-denied c k holds =
    let h = there (goal.at.returns-in-None-clause-denied c).After-handle_in-source k holds in
    sym (too_few (setting_in c.args.setting.now) (parts_of c.self.inside) _ c.args.self.now c.args.pool (length k)
    (λ ns. cloned ns k) (λ ns old new. new ≡ old) c.self.view_is c.self.invariant c.requires.pools (sym (rw c.pattern.ensures at c.if-is_listed.ensures))
    (rw c.from.ensures at (c.in-None.ensures.packets k h.has)))

pub returns-in-None-clause-refused : goal.returns-in-None-clause-refused
returns-in-None-clause-refused c _ =
    let (k, holds) = c.requires.holds in
    let h = there (goal.at.returns-in-None-clause-refused c).After-handle_in-source k holds in
    rw (c.clone_of.ensures.zones) (called _ _ _ c.self.view_is (c.in-None.ensures.packets k h.has).1)

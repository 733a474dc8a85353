use Rattle.std.proofs.Common.{arith}
use Rattle.dp_engine.proofs.Slots.{rings_below, ring_there}
use Rattle.dp_engine.proofs.rings.ring_in.Goals as goal

pub listed : goal.listed
listed c = omega (arith, c.from.ensures, c.requires, rings_below c.args.rings.now)

pub bounds-rings-from : goal.bounds-rings-from
bounds-rings-from c = omega (arith, c.from.ensures, c.requires, c.type_inv.rings, rings_below c.args.rings.now)

pub proved-requires : goal.proved-requires
proved-requires c =
    let e = ring_there c.args.rings.now c.args.k c.index-rings-from.result c.requires in absurd cc

pub returns : goal.returns
returns c =
    let e = ring_there c.args.rings.now c.args.k c.index-rings-from.result c.requires in cc

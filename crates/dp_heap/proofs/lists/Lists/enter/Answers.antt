-- The element links to the former first of its list, and that one links back.
use Rattle.std.proofs.Common.{arith}
use Rattle.dp_heap.proofs.Lent.{free_is}
use Rattle.dp_heap.proofs.Enter.{own, first, long1, long2, entered_laid, entered}
use Rattle.dp_heap.proofs.lists.Lists.enter.Goals as goal

pub write_link-requires : goal.write_link-requires
write_link-requires c =
    let (laid, here) = c.requires.laid in
    let o = own c.args.region.now laid c.args.e.now here (free_is c.args.e.now c.requires.free) c.args.self.now.heads c.requires.off.0 c.requires.off.1 in
    (λ _. (o.room, o.unlent), omega arith, laid.size.1)

pub write_link-requires-2 : goal.write_link-requires-2
write_link-requires-2 c =
    let (laid, here) = c.requires.laid in let most = laid.size.1 in
    let o = own c.args.region.now laid c.args.e.now here (free_is c.args.e.now c.requires.free) c.args.self.now.heads c.requires.off.0 c.requires.off.1 in
    let n = long1 c.args.region.now laid c.args.e.now here (free_is c.args.e.now c.requires.free) c.args.self.now.heads c.requires.off.0 c.requires.off.1 in
    let room = o.room in
    rw (c.write_link.ensures, c.class_of-class.ensures, c.from.ensures) (λ _. (omega arith, o.unlent), omega arith, omega arith)

pub write_link-requires-3 : goal.write_link-requires-3
write_link-requires-3 c =
    let (laid, here) = c.requires.laid in let most = laid.size.1 in
    let n = long2 c.args.region.now laid c.args.e.now here (free_is c.args.e.now c.requires.free) c.args.self.now.heads c.requires.off.0 c.requires.off.1 in
    let f = first c.args.region.now laid c.args.e.now here (free_is c.args.e.now c.requires.free) c.args.self.now.heads c.requires.off.0 c.requires.off.1 in
    rw (c.write_link-2.ensures, c.write_link.ensures, c.class_of-class.ensures, c.from.ensures) (
      λ lt. let h = f (omega arith) in
          let room = h.room in (omega arith, h.unlent),
      omega arith,
      omega arith,
    )

pub returns-clause-laid : goal.returns-clause-laid
returns-clause-laid c =
    let (laid, here) = c.requires.laid in
    rw (c.write_link-3.ensures, c.write_link-2.ensures, c.write_link.ensures, c.class_of-class.ensures, c.from.ensures)
    (entered_laid c.args.region.now laid c.args.e.now here (free_is c.args.e.now c.requires.free) c.args.self.now.heads c.requires.off.0 c.requires.off.1).0

pub returns-clause-same : goal.returns-clause-same
returns-clause-same c =
    let (laid, here) = c.requires.laid in
    rw (c.write_link-3.ensures, c.write_link-2.ensures, c.write_link.ensures, c.class_of-class.ensures, c.from.ensures)
    (entered_laid c.args.region.now laid c.args.e.now here (free_is c.args.e.now c.requires.free) c.args.self.now.heads c.requires.off.0 c.requires.off.1).1

pub returns-clause-listed : goal.returns-clause-listed
returns-clause-listed c off w =
    let (laid, here) = c.requires.laid in
    rw (c.write_link-3.ensures, c.write_link-2.ensures, c.write_link.ensures, c.class_of-class.ensures, c.from.ensures)
    (entered c.args.region.now laid c.args.e.now here (free_is c.args.e.now c.requires.free) c.args.self.now.heads off w)

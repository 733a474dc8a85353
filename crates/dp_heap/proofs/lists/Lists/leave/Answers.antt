-- The neighbours in the list link to each other.
use Rattle.std.proofs.Common.{refl, sym, ◌∙◌, arith}
use Rattle.dp_heap.proofs.Lent.{free_is}
use Rattle.dp_heap.proofs.Listing.{Header, header_of}
use Rattle.dp_heap.proofs.Leave.{u_header, v_header, long1, left_laid, left_first, left_later}
use Rattle.dp_heap.proofs.lists.Lists.leave.Goals as goal
use Rattle.dp_heap.proofs.lists.Lists.leave.Goals.{Start}

-- the header of the element that leaves
own : (c : Start) → Header c.args.region.now c.args.e.now.offset
own c = let (laid, here) = c.requires.laid in header_of c.args.region.now laid here.before c.args.e.now here.after here.split

pub overflow_add-e : goal.overflow_add-e
overflow_add-e c = record { fits = omega (arith, (own (goal.at.overflow_add-e c).Start).room, c.requires.laid.0.size.1) }

pub overflow_add-e-2 : goal.overflow_add-e-2
overflow_add-e-2 c = record { fits = omega (arith, (own (goal.at.overflow_add-e-2 c).Start).room, c.requires.laid.0.size.1) }

pub load_u32-next-requires : goal.load_u32-next-requires
load_u32-next-requires c =
    let o = own (goal.at.load_u32-next-requires c).Start in let room = o.room in (omega arith, λ k p q. o.unlent k (omega arith) (omega arith))

pub load_u32-before-requires : goal.load_u32-before-requires
load_u32-before-requires c =
    let o = own (goal.at.load_u32-before-requires c).Start in let room = o.room in (omega arith, λ k p q. o.unlent k (omega arith) (omega arith))

pub write_link-requires : goal.write_link-requires
write_link-requires c =
    let (laid, here) = c.requires.laid in let most = laid.size.1 in let (off, listed, among) = c.requires.listed in
    let u = u_header c.args.region.now laid c.args.e.now here (free_is c.args.e.now c.requires.free) c.args.self.now.heads off listed among in
    rw c.load_u32-before.ensures (λ lt. let h = u lt in (h.room, h.unlent), omega arith, most)

pub write_link-requires-2 : goal.write_link-requires-2
write_link-requires-2 c =
    let (laid, here) = c.requires.laid in let most = laid.size.1 in let (off, listed, among) = c.requires.listed in
    let v = v_header c.args.region.now laid c.args.e.now here (free_is c.args.e.now c.requires.free) c.args.self.now.heads off listed among in
    let n = long1 c.args.region.now laid c.args.e.now here (free_is c.args.e.now c.requires.free) c.args.self.now.heads off listed among in
    rw (c.write_link.ensures, c.load_u32-before.ensures, c.load_u32-next.ensures) (
      λ lt. let h = v (omega arith) in
          let room = h.room in (omega arith, h.unlent),
      omega arith,
      omega arith,
    )

pub returns-then-before : goal.returns-then-before
returns-then-before c =
    let (laid, here) = c.requires.laid in let (off, listed, among) = c.requires.listed in let free = free_is c.args.e.now c.requires.free in
    let r = c.args.region.now in let e = c.args.e.now in let heads = c.args.self.now.heads in
    let first = sym c.load_u32-before.ensures ∙ c.if-before.true in let left = left_laid r laid e here free heads off listed among in
    rw (c.write_link-2.ensures, c.write_link.ensures, c.load_u32-before.ensures, c.load_u32-next.ensures, c.class_of.ensures, c.from.ensures)
    (record { laid = left.0; home = refl; same = left.1; off = λ off w none. left_first r laid e here free heads off w none first })

pub returns-else-before : goal.returns-else-before
returns-else-before c =
    let (laid, here) = c.requires.laid in let (off, listed, among) = c.requires.listed in let free = free_is c.args.e.now c.requires.free in
    let r = c.args.region.now in let e = c.args.e.now in let heads = c.args.self.now.heads in let left = left_laid r laid e here free heads off listed among in
    rw (c.write_link-2.ensures, c.write_link.ensures, c.load_u32-before.ensures, c.load_u32-next.ensures) (record {
      laid = left.0;
      home = refl;
      same = left.1;
      off = λ off w none. left_later r laid e here free heads off w none (λ is. c.if-before.false (c.load_u32-before.ensures ∙ is));
    })

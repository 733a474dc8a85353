-- Where the walk along a list stops there is an element with a header, whose link leads on.
use Rattle.std.proofs.Common.{◌≡◌, ℕ, ◌∷◌, ◌++◌, sym, ap, subst, ◌∙◌, arith}
use Rattle.dp_heap.specs.declared.elements.Element.{Element as Item}
use Rattle.dp_heap.specs.declared.elements.State.TheVariants.{Free}
use Rattle.dp_heap.specs.Elements.{CanHold}
use Rattle.dp_heap.specs.Lists.{class_of}
use Rattle.dp_heap.proofs.Walk.{walk_begins, found_at, onward, smaller, walk_ended}
use Rattle.dp_heap.proofs.lists.Lists.first_fit.Goals as goal

pub loop-offset-init : goal.loop-offset-init
loop-offset-init c = walk_begins c.args.region.now.bytes c.args.self.now.heads c.args.class c.args.len c.args.align c.requires.class c.requires.laid.1

pub read_header-e-requires : goal.read_header-e-requires
read_header-e-requires c =
    let r = c.args.region.now in let h = (found_at r c.requires.laid.0 c.args.class c.args.len c.args.align c.loop-offset.offset c.loop-offset.invariant
    c.loop-offset-test.true).header in let room = h.room in
    ((omega arith, λ k p q. h.unlent k p (omega arith)), c.requires.laid.0.size.1)

pub highest-requires-clause-bounds : goal.highest-requires-clause-bounds
highest-requires-clause-bounds c =
    let r = c.args.region.now in let f = found_at r c.requires.laid.0 c.args.class c.args.len c.args.align c.loop-offset.offset c.loop-offset.invariant
    c.loop-offset-test.true in
    rw c.read_header-e.ensures (c.requires.align.2, f.bound, f.free)

pub returns-in-Some : goal.returns-in-Some
returns-in-Some c =
    let r = c.args.region.now in let f = found_at r c.requires.laid.0 c.args.class c.args.len c.args.align c.loop-offset.offset c.loop-offset.invariant
    c.loop-offset-test.true in (
      record { before = f.before; after = f.after; split = f.split ∙ ap (λ (x : Item). f.before ++ x ∷ f.after) (sym c.read_header-e.ensures) },
      subst (λ (x : Item). x.state ≡ Free) (sym c.read_header-e.ensures) f.free,
      c.in-Some.ensures,
      ap (λ (x : Item). class_of x.size) c.read_header-e.ensures ∙ f.class,
    )

pub overflow_add-offset : goal.overflow_add-offset
overflow_add-offset c =
    let r = c.args.region.now in let most = c.requires.laid.0.size.1 in
    let room = (found_at r c.requires.laid.0 c.args.class c.args.len c.args.align c.loop-offset.offset c.loop-offset.invariant
    c.loop-offset-test.true).header.room in
    record { fits = omega arith }

pub load_u32-offset-requires : goal.load_u32-offset-requires
load_u32-offset-requires c =
    let r = c.args.region.now in let h = (found_at r c.requires.laid.0 c.args.class c.args.len c.args.align c.loop-offset.offset c.loop-offset.invariant
    c.loop-offset-test.true).header in let room = h.room in
    (omega arith, λ k p q. h.unlent k (omega arith) (omega arith))

pub loop-offset-smaller : goal.loop-offset-smaller
loop-offset-smaller c =
    let r = c.args.region.now in
    let never = subst (λ (x : Item). (d : ℕ) → CanHold x c.args.len c.args.align d → ⊥) c.read_header-e.ensures c.in_default.ensures in
    rw c.load_u32-offset.ensures (smaller r c.requires.laid.0 c.args.class c.args.len c.args.align c.loop-offset.offset c.loop-offset.invariant
    c.loop-offset-test.true never)

pub loop-offset-preserved : goal.loop-offset-preserved
loop-offset-preserved c =
    let r = c.args.region.now in
    let never = subst (λ (x : Item). (d : ℕ) → CanHold x c.args.len c.args.align d → ⊥) c.read_header-e.ensures c.in_default.ensures in
    rw c.load_u32-offset.ensures (onward r c.requires.laid.0 c.args.class c.args.len c.args.align c.loop-offset.offset c.loop-offset.invariant
    c.loop-offset-test.true never).more

pub returns : goal.returns
returns c = walk_ended c.args.region.now c.requires.laid.0 c.args.class c.args.len c.args.align c.loop-offset.offset c.loop-offset.invariant
    c.loop-offset-test.false

-- The next element is the one at the offset, and those after it are left.
use Rattle.std.proofs.Common.{◌+◌, ◌∷◌, ◌<◌, length, sym, ap, ◌∙◌, arith}
use Rattle.dp_heap.specs.declared.elements.Element.{Element}
use Rattle.dp_heap.proofs.Rest.{rest_of, nothing_left, next, reached, rest_next}
use Rattle.dp_heap.proofs.iter.IterIterator.next.Goals as goal

pub returns-then-offset-size-clause-steps : goal.returns-then-offset-size-clause-steps
returns-then-offset-size-clause-steps c =
    let none = sym c.self.view_is ∙ nothing_left c.self.inside.region.now c.self.inside.offset c.self.invariant.1
    (omega (arith, c.if-offset-size.true, c.size.ensures.value)) in (none, none)

pub read_header-e-requires : goal.read_header-e-requires
read_header-e-requires c =
    (next c.self.inside.region.now c.self.invariant.0 c.self.inside.offset c.self.invariant.1
    (omega (arith, c.if-offset-size.false, c.size.ensures.value))).readable

pub overflow_add-self : goal.overflow_add-self
overflow_add-self c =
    let n = next c.self.inside.region.now c.self.invariant.0 c.self.inside.offset c.self.invariant.1
    (omega (arith, c.if-offset-size.false, c.size.ensures.value)) in
    rw c.read_header-e.ensures (record { fits = omega (arith, n.bound, n.readable.1) })

pub invariant_of-self : goal.invariant_of-self
invariant_of-self c =
    rw c.read_header-e.ensures (
      c.self.invariant.0,
      reached c.self.inside.region.now c.self.invariant.0 c.self.inside.offset c.self.invariant.1
          (omega (arith, c.if-offset-size.false, c.size.ensures.value)),
    )

pub returns-clause-steps : goal.returns-clause-steps
returns-clause-steps c =
    let more : c.self.inside.offset < length c.self.inside.region.now.bytes = omega (arith, c.if-offset-size.false, c.size.ensures.value) in
    sym c.self.view_is ∙ rest_next c.self.inside.region.now c.self.invariant.0 c.self.inside.offset c.self.invariant.1 more
    ∙ ap (λ (e : Element). e ∷ rest_of c.self.inside.region.now (c.self.inside.offset + e.size)) (sym c.read_header-e.ensures)

pub returns-clause-goes : goal.returns-clause-goes
returns-clause-goes c =
    let longer = ap length (returns-clause-steps c) in record { on = λ _. (tt, tt, omega (arith, longer)); keeps = tt; rests = λ _. tt }

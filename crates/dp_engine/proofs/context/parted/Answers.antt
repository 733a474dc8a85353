-- Each program goes to its part.
use Rattle.std.proofs.Common.{◌∙◌, ◌++◌, ◌∷◌, ◌<◌, ◌≤◌, List, [], length, take, sym, ap, append_assoc, arith}
use Rattle.std.specs.Vec.Iter.{into_iter_items}
use Rattle.std.proofs.lemmas.List.{length-map, length-drop, length-append}
use Rattle.dp_check.specs.Faults.{IsChecked}
use Rattle.dp_model.specs.Rules.{Question}
use Rattle.dp_model.specs.Laws.Lists.{all_join}
use Rattle.dp_engine.specs.Schemes.{programs_of}
use Rattle.dp_engine.proofs.Parting.{port_more, ring_more}
use Rattle.dp_engine.proofs.context.parted.Goals as goal

pub loop-node-preserved-then-len-ports : goal.loop-node-preserved-then-len-ports
loop-node-preserved-then-len-ports g c =
    let l = c.loop-node in
    let few : length (take c.args.ports (programs_of l.yielded)) < c.args.ports =
    omega (arith, c.if-len-ports.true, c.len.ensures.value, ap length l.invariant.ports) in
    let more = port_more c.args.ports l.yielded c.in-Some.node few in
    record {
      ports = c.push.ensures.items ∙ (rw (c.new-program.ensures, c.into_instrs.ensures.same, c.into_program.ensures.same, l.invariant.ports) (sym more.0));
      rings = l.invariant.rings ∙ sym more.1;
      all = append_assoc l.yielded (c.in-Some.node ∷ []) (into_iter_items c.next.new.self)
          ∙ (ap (λ (ys : List Question). l.yielded ++ ys) (sym c.in-Some.ensures.steps.0) ∙ l.invariant.all);
      checked = all_join IsChecked l.yielded (c.in-Some.node ∷ []) l.invariant.checked (c.into_program.ensures.checked, tt);
    }

-- there are fewer than eight programs of rings where one more comes
pub push-requires-else-len-ports : goal.push-requires-else-len-ports
push-requires-else-len-ports g c =
    let l = c.loop-node in
    let parts = length-append l.yielded (into_iter_items l.node-iterator) in
    let left = ap length c.in-Some.ensures.steps.0 in
    let programs = length-map l.yielded (λ (q : Question). q.program) in
    let dropped = length-drop c.args.ports (programs_of l.yielded) in
    (omega arith, omega (arith, c.requires.rings, parts, ap length l.invariant.all, left, ap length l.invariant.rings, programs, dropped))

pub loop-node-preserved : goal.loop-node-preserved
loop-node-preserved g c =
    let l = c.loop-node in
    let many : c.args.ports ≤ length (take c.args.ports (programs_of l.yielded)) =
    omega (arith, c.if-len-ports.false, c.len.ensures.value, ap length l.invariant.ports) in
    let more = ring_more c.args.ports l.yielded c.in-Some.node many in
    record {
      ports = l.invariant.ports ∙ sym more.0;
      rings = c.push-else-len-ports.ensures.items
          ∙ (rw (c.new-program.ensures, c.into_instrs.ensures.same, c.into_program.ensures.same, l.invariant.rings) (sym more.1));
      all = append_assoc l.yielded (c.in-Some.node ∷ []) (into_iter_items c.next.new.self)
          ∙ (ap (λ (ys : List Question). l.yielded ++ ys) (sym c.in-Some.ensures.steps.0) ∙ l.invariant.all);
      checked = all_join IsChecked l.yielded (c.in-Some.node ∷ []) l.invariant.checked (c.into_program.ensures.checked, tt);
    }

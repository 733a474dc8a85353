-- `each_argument`: one operand more, and the end.
use Rattle.std.proofs.Common.{rules, ◌≡◌, ◌++◌, map, [], ◌∷◌, arith, length, ◌<◌}
use Rattle.std.proofs.lemmas.Grind.{common_steps}
use Rattle.std.proofs.lemmas.List.{map_push}
use Rattle.dp_lang.specs.declared.form.OperandKind.TheVariants as kinds
use Rattle.dp_lang.specs.Views.{argument}
use Rattle.dp_lang.proofs.Loops.{ok_goes_on, err_goes_on}
use Rattle.dp_lang.proofs.reader.each_argument.Goals as goal
use Rattle.dp_lang.proofs.reader.each_argument.Goals.{in-Ok+in_ok-push-in-Ok, in-Err}

pub loop-i-preserved : goal.loop-i-preserved
loop-i-preserved c =
    let i = c.loop-i.i in
    let ks = c.args.kinds.now in
    let ps = c.args.parts.now in
    let lt : i < length ps = omega arith in
    let front = map argument c.loop-i.arguments.items in
    elim c.match-argument_of.branch [
      | in-Ok+in_ok-push-in-Ok w ↦
          let items : w.push.new.self.items ≡ c.loop-i.arguments.items ++ w.in-Ok.argument ∷ [] = search rules in
          rw (w.arguments-is, w.fault-is, items, map_push argument c.loop-i.arguments.items w.in-Ok.argument)
          (ok_goes_on ks ps i kinds.Packet (record { ref_ptr = (0, 0); now = [] }) c.loop-i.fault front (argument w.in-Ok.argument) _ c.loop-i-test.true lt
          (rw (← c.trim.ensures) w.in-Ok.ensures) c.loop-i.invariant)
      | in-Err w ↦
          rw (w.arguments-is, w.fault-is, w.or_less.ensures)
          (err_goes_on ks ps i kinds.Packet (record { ref_ptr = (0, 0); now = [] }) c.loop-i.fault front w.in-Err.cause _ c.loop-i-test.true lt
          (rw (← c.trim.ensures) w.in-Err.ensures) c.loop-i.invariant)
    ]

pub returns-in-None : goal.returns-in-None
returns-in-None c = grind (arith, common_steps)

pub returns : goal.returns
returns c = grind (arith, common_steps)

use Rattle.std.proofs.Common.{◌<◌, length, refl, rules}
use Rattle.dp_lpm.specs.Faults.{add_fault}
use Rattle.dp_host.proofs.Depths.{add_too_deep, told_on}
use Rattle.dp_host.proofs.running.Running.add_route.Goals as goal
use Rattle.dp_host.proofs.running.Running.add_route.Goals.{in-Ok, in-Err}

pub returns-then-depth-gt-MAX_DEPTH-clause-err : goal.returns-then-depth-gt-MAX_DEPTH-clause-err
returns-then-depth-gt-MAX_DEPTH-clause-err c =
    let less : c.args.table < length c.args.self.now.tables = search rules in
    (add_too_deep c.args.table c.args.ip c.args.depth c.args.hop c.args.self.now.tables less c.if-depth-gt-MAX_DEPTH.true, refl)

pub returns-clause-err : goal.returns-clause-err
returns-clause-err c =
    elim c.match-add_route.branch [
      | in-Ok w ↦ rw w.result-is tt
      | in-Err w ↦
          rw w.result-is (told_on (λ t. add_fault t c.args.ip c.args.depth c.args.hop) c.args.table _ _ _ _ _ c.self.view_is
          w.refusal_of.ensures w.in-Err.ensures.err)
    ]

-- `run_through`: the devices are as all rounds left them, and the report is that of the engine then.
use Rattle.std.proofs.Common.{rules, arith}
use Rattle.std.proofs.lemmas.Grind.{common_steps}
use Rattle.dp_pipe.specs.Running.{IsReportOf, report_of}
use Rattle.dp_pipe.proofs.running.run_through.Goals as goal
use Rattle.dp_pipe.proofs.running.run_through.Goals.{After-answer_with}

reported : (g : _) (c : After-answer_with g) → IsReportOf c.forward-outcome.new.engine c.forward-outcome.new.inputs.items (report_of c.answer_with.result)
reported g c =
    rw c.answer_with.ensures.report
    (record {
      rings = search rules;
      pools = search rules;
      ports = grind (arith, common_steps);
      calls = search rules;
      refused = search rules;
      cut = search rules;
    })

pub returns-clause-through : goal.returns-clause-through
returns-clause-through g c = (
  c.forward-outcome.new.engine,
  rw c.answer_with.ensures.outcome c.forward-outcome.ensures.forward,
  reported g (goal.at.returns-clause-through g c).After-answer_with,
)

pub returns-clause-shown : goal.returns-clause-shown
returns-clause-shown g c = (
  c.forward-outcome.new.engine,
  rw c.answer_with.ensures.outcome c.forward-outcome.ensures.shown,
  reported g (goal.at.returns-clause-shown g c).After-answer_with,
)

pub returns-clause-fared_readers : goal.returns-clause-fared_readers
returns-clause-fared_readers g c = rw c.answer_with.ensures.outcome c.forward-outcome.ensures.fared_readers

pub returns-clause-fared_writers : goal.returns-clause-fared_writers
returns-clause-fared_writers g c = rw c.answer_with.ensures.outcome c.forward-outcome.ensures.fared_writers

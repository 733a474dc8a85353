-- After a flush nothing is left.
use Rattle.std.proofs.Common.{sym, ap, subst, arith}
use Rattle.dp_engine.specs.Engines.{EngineState, IsFlushed}
use Rattle.dp_engine.proofs.Closing.{flushed_empty, whole_report}
use Rattle.dp_engine.proofs.engine.Engine.finish.Goals as goal

pub close-requires : goal.close-requires
close-requires g c = (omega arith, subst IsFlushed (sym c.flush.ensures.empty) (flushed_empty c.args.self))

pub returns-clause-whole : goal.returns-clause-whole
returns-clause-whole g c = whole_report c.args.self.setting.env c.flush.new.self c.report-report.result
    (ap (λ (e : EngineState). e.setting.env) c.flush.ensures.empty) c.flush.ensures.free c.report-report.ensures

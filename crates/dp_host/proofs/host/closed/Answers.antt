-- The promise holds of all calls that were served.
use Rattle.std.proofs.Common.{◌≡◌, length, Some, refl, sym, ◌∙◌, ap, subst}
use Rattle.std.proofs.lemmas.List.{length-map}
use Rattle.dp_model.specs.declared.env.PoolSpec.{PoolSpec}
use Rattle.dp_engine.specs.declared.report.PoolReport.{PoolReport}
use Rattle.dp_host.specs.declared.numbers.Totals.{Totals}
use Rattle.dp_host.specs.declared.refusal.Refusal.TheVariants as refusal
use Rattle.dp_host.specs.Hosts.{CloseAnswers, IsTotal}
use Rattle.dp_host.proofs.Serving.{AreLaws, promised}
use Rattle.dp_host.proofs.host.closed.Goals as goal

pub returns : goal.returns
returns c =
    let e = c.in-Some.running in
    let was : c.args.host.now.running ≡ Some e = sym c.take.ensures.value ∙ c.in-Some.is in
    let report = c.end-report.ensures in
    let t : Totals = record { turns = c.turns-turns.result; calls = c.end-report.result.calls; cut = c.end-report.result.cut; pools = c.len.result } in
    let laws : AreLaws = record {
      safe = c.uses_keep_safe.ensures.safe;
      copies = c.uses_are_copied.ensures;
      nothing = c.uses_keep_safe.ensures.nothing;
      free = c.whole_runs_end_with_whole_pools.ensures.free;
      join = c.uses_join.ensures.stretches;
      one = c.uses_join.ensures.one;
      safe_run = c.runs_keep_safe.ensures;
      copied_run = c.clones_are_copies.ensures;
    } in
    let whole : PoolSpec → PoolReport = λ p. record { free = p.count; count = p.count } in
    let total : IsTotal e t = record {
      turns = c.turns-turns.ensures;
      calls = report.report.calls;
      cut = report.report.cut;
      pools = c.len.ensures.value ∙ ap length report.whole ∙ length-map e.setting.env.pools whole;
    } in (
      subst (λ o. CloseAnswers o c.args.host.now.missing c.take.new.self refusal.Closed c.args.totals.now t 0) (sym was)
          (refl, c.take.ensures.after, refl, total, (λ p events served. promised p events e laws served)),
      refl,
    )

-- The files, and then the standard streams.
use Rattle.std.proofs.Common.{rules, ◌≡◌, ◌∙◌, ◌++◌, [], List, map, ap}
use Rattle.dp_captures.specs.{declared.guard.Kept.Kept, Guarding.read_target, Guarding.targets}
use Rattle.dp_captures.proofs.Opened.{two_more}
use Rattle.dp_captures.proofs.guard.files_of_run.Goals as goal

pub returns : goal.returns
returns g c =
    let none : c.new-kept.result.items ≡ [] = search rules in
    two_more _ _ _ (map read_target c.args.reads.now) _ _ _
    (c.in_ok-keep_reads.ensures ∙ ap (λ (kept : List Kept). targets kept ++ map read_target c.args.reads.now) none)
    c.in_ok-keep_inputs.ensures c.in_ok-keep.ensures _ c.in_ok-keep-2.ensures

-- The next part moves down, until all have.
use Rattle.std.proofs.Common.{rules, ◌≡◌, ◌+◌, ◌-◌, ◌<◌, ◌≤◌, length, drop, subst, arith}
use Rattle.std.proofs.Math.Seq.{paste}
use borrow.Rule.Slice.PartMut.{put_mid}
use Rattle.dp_lpm.proofs.Removing.{GoneDown, part_down, part_put, down_length}
use Rattle.dp_lpm.proofs.rule.drop_first_rule.Goals as goal

pub loop-at-preserved : goal.loop-at-preserved
loop-at-preserved c =
    let old = c.args.rules.now in
    let at = c.loop-at.at in
    let now = c.loop-at.rules in
    let end = c.min-end.result in
    let later : at ≤ end = search rules in
    let fits : end < length old = search rules in
    let long = down_length old at now c.loop-at.invariant in
    let whole : at + (end - at) ≡ end = omega (arith, later) in
    let count : end + 1 - at ≡ end - at + 1 = omega (arith, later) in
    let within : at + (end - at) < length now = omega (arith, whole, fits, long) in
    let part = put_mid at (end + 1 - at) now c.move_down.new.rules in
    let is : part ≡ paste now at (drop (at + 1) now) (end - at) = rw (c.move_down.ensures, count) (part_put now at (end - at) within) in
    subst (λ i. GoneDown old i part) whole (rw is (part_down old at (end - at) now (omega (arith, whole, fits)) c.loop-at.invariant))

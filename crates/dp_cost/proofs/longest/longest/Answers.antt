-- One more longest way is found, until those from all labels are.
use Rattle.std.proofs.Common.{ℕ, suc, ◌-◌, ◌<◌, ◌≤◌, length, arith, length-set}
use Rattle.std.proofs.lemmas.List.{length-replicate}
use Rattle.dp_cost.specs.Costs.{IsLongest, way_at}
use Rattle.dp_cost.proofs.Ways.{read, none_yet, all_zero, filled, still_small}
use Rattle.dp_cost.proofs.longest.longest.Goals as goal

pub loop-label-init : goal.loop-label-init
loop-label-init c = (
  omega arith,
  length-replicate {A = ℕ} 1025 0,
  λ k past. none_yet c.args.instrs.now 1025 k (omega (arith, past)),
  λ k. all_zero 1025 k,
)

pub loop-label-preserved : goal.loop-label-preserved
loop-label-preserved c =
    let program = c.args.instrs.now in
    let ways = c.loop-label.ways in
    let label = c.loop-label.label - 1 in
    let some = c.loop-label-test.true in
    let less : label < length program = omega (arith, some, c.loop-label.invariant.0) in
    let room : label < length ways = omega (arith, less, c.requires.few, c.loop-label.invariant.1) in
    let i = c.index-instrs-label.result in
    let here = read program label i less c.index-instrs-label.is in
    let known : (k : ℕ) → suc label ≤ k → IsLongest program k (way_at ways k) = λ k le. c.loop-label.invariant.2 k (omega (arith, le, some)) in (
      omega (arith, less),
      rw length-set c.loop-label.invariant.1,
      λ k le. rw c.way_from.ensures (filled program ways label i c.requires.forward c.requires.few here room known c.loop-label.invariant.3 k le),
      λ k. rw c.way_from.ensures (still_small program ways label i c.requires.forward c.requires.few here room known c.loop-label.invariant.3 k),
    )

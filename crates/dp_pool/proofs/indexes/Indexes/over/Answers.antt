-- All indexes are in the queue.
use Rattle.std.proofs.Common.{◌≡◌, ◌++◌, length, replicate, false, sym, ap, ap₂, subst, ◌∙◌, arith}
use Rattle.dp_pool.specs.Once.{AreOnce, absent, upto}
use Rattle.dp_pool.proofs.Upto.{once_upto, absent-upto}
use Rattle.dp_pool.proofs.Views.{view_of, with_state}
use Rattle.dp_pool.proofs.indexes.Indexes.over.Goals as goal

pub invariant_of-result : goal.invariant_of-result
invariant_of-result c =
    let count = ap (λ q. q.count) c.fill.ensures in
    let empty = ap length c.new.ensures in (
      subst (λ xs. AreOnce c.args.count (xs ++ c.fill.new.queue.entries)) (sym c.new.ensures)
          (subst (λ q. AreOnce c.args.count q.entries) (sym c.fill.ensures) (once_upto c.args.count)),
      (let room = c.requires.room in omega (arith, count, room)),
      c.requires.limits.1,
      omega (arith, empty),
      λ is. empty,
      c.requires.limits.0,
    )

pub returns : goal.returns
returns c =
    let cached : length c.new.result.items ≡ 0 = ap length c.new.ensures in
    let out : absent c.args.count (c.new.result.items ++ upto c.args.count) ≡ replicate c.args.count false =
    ap (λ xs. absent c.args.count (xs ++ upto c.args.count)) c.new.ensures ∙ absent-upto c.args.count in
    ap (view_of c.args.cache c.args.count c.new.result.items) c.fill.ensures
    ∙ ap₂ (with_state (view_of c.args.cache c.args.count c.new.result.items c.args.queue)) cached out

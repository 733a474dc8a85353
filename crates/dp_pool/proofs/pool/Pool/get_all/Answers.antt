-- One more object is taken into the next slot of the list.
use Rattle.std.proofs.Common.{◌≡◌, suc, ◌+◌, ◌∷◌, [], ◌++◌, take, slice_set, sym, ap, subst, ◌∙◌, arith}
use Rattle.std.proofs.lemmas.List.{length-set}
use lib.Seq.{take-suc-set}
use Rattle.dp_pool.specs.Queues.{in_count}
use Rattle.dp_pool.specs.Pools.{AreGot}
use Rattle.dp_pool.proofs.Bulk.{in_count_taken, are_got_more}
use Rattle.dp_pool.proofs.pool.Pool.get_all.Goals as goal

pub loop-slot-preserved : goal.loop-slot-preserved
loop-slot-preserved c =
    let i = c.loop-slot.slot-index in
    let old = c.loop-slot.self in
    let indexes = c.loop-slot.indexes in
    let index = c.in-Some.index in
    let was_in = c.in-Some.ensures.0 in
    let new = c.in-Some.ensures.1 in
    let one_more : suc i ≡ i + 1 = omega arith in
    let long = c.loop-slot.invariant.long in
    let next : take (i + 1) (slice_set indexes i index) ≡ take i indexes ++ index ∷ [] =
    ap (λ n. take n (slice_set indexes i index)) (sym one_more) ∙ take-suc-set indexes i index
    (omega (arith, long, c.loop-slot-test.true, c.loop-slot.auto.slot-index-end)) in
    let fewer = in_count_taken old.out index was_in in
    let counted = ap (λ v. in_count v.out) new in
    let before = c.loop-slot.invariant.counted in record {
      got = subst (λ is. AreGot c.args.self.now is c.get.new.self) (sym next)
          (subst (λ v. AreGot c.args.self.now (take i indexes ++ index ∷ []) v) (sym new)
          (are_got_more c.args.self.now old (take i indexes) index c.loop-slot.invariant.got was_in));
      counted = omega (arith, fewer, counted, before);
      long = length-set indexes i index ∙ long;
    }

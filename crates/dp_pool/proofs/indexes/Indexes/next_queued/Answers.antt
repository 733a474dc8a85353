-- The first of the queue is taken.
use Rattle.std.proofs.Common.{◌<◌, ◌++◌, length, drop, slice_get, sym, ap, ◌∙◌, subst, arith}
use Rattle.dp_pool.specs.Queues.{in_count}
use Rattle.dp_pool.specs.contracts.indexes.Indexes.{the_view}
use Rattle.dp_pool.proofs.Views.{view_of, with_state, got_queued}
use Rattle.dp_pool.proofs.Steps.{Gone, gone_queued, none_queued, in_count_parts}
use Rattle.dp_pool.proofs.indexes.Indexes.next_queued.Goals as goal

pub proved-requires : goal.proved-requires
proved-requires c =
    let (once, _, _, _, none_cached, _) = c.self.invariant in
    let empty = none_queued c.self.inside.queue.entries (sym c.dequeue.ensures.first ∙ c.in_default.is) in
    let all = in_count_parts c.self.inside.count c.self.inside.cached.items c.self.inside.queue.entries once in
    let some : 0 < in_count (the_view c.self.inside).out = subst (λ v. 0 < in_count v.out) (sym c.self.view_is) c.requires.some in
    let none = none_cached (ap (λ v. v.cache) c.self.view_is ∙ c.requires.cache) in
    let short = ap length empty in
    absurd omega (arith, all, some, none, short)

left : (c : goal.In-Some) → Gone c.self.inside.count (c.self.inside.cached.items ++ c.self.inside.queue.entries) (c.self.inside.cached.items
    ++ drop 1 c.self.inside.queue.entries) c.in-Some.index
left c = gone_queued c.self.inside.count c.in-Some.index c.self.inside.cached.items c.self.inside.queue.entries (sym c.dequeue.ensures.first
    ∙ c.in-Some.is) c.self.invariant.0

pub invariant_of-self : goal.invariant_of-self
invariant_of-self c =
    let (_, room, small, few, none_cached, most) = c.self.invariant in
    let same = ap (λ q. q.count) c.dequeue.ensures.rest in (
      rw c.dequeue.ensures.rest (left c).once,
      omega (arith, same, room),
      small,
      few,
      none_cached,
      most,
    )

pub returns-clause-was_in : goal.returns-clause-was_in
returns-clause-was_in c = ap (λ v. slice_get v.out c.in-Some.index) (sym c.self.view_is) ∙ (left c).was_in

pub returns-clause-out : goal.returns-clause-out
returns-clause-out c =
    let out = (left c).out in
    ap (view_of c.self.inside.cache c.self.inside.count c.self.inside.cached.items) c.dequeue.ensures.rest
    ∙ (ap (with_state (view_of c.self.inside.cache c.self.inside.count c.self.inside.cached.items c.self.inside.queue) (length c.self.inside.cached.items)) out
    ∙ ap (got_queued c.in-Some.index) c.self.view_is)

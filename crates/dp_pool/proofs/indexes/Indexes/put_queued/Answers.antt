-- The index is appended to the queue.
use Rattle.std.proofs.Common.{◌≡◌, ◌<◌, cond, [], ◌∷◌, ◌++◌, length, slice_get, sym, ap, ◌∙◌, subst, arith, length-append}
use Rattle.std.proofs.lemmas.Bool.{lt-ltb}
use Rattle.dp_ring.specs.Rings.{room_in, with_more}
use Rattle.dp_pool.specs.Once.{AreOnce}
use Rattle.dp_pool.proofs.Views.{view_of, with_state, put_back}
use Rattle.dp_pool.proofs.Steps.{Back, back_queued, few_parts}
use Rattle.dp_pool.proofs.indexes.Indexes.put_queued.Goals as goal

put : (c : goal.After-enqueue) → Back c.self.inside.count (c.self.inside.cached.items ++ c.self.inside.queue.entries) (c.self.inside.cached.items
    ++ (c.self.inside.queue.entries ++ c.args.index ∷ [])) c.args.index
put c = back_queued c.self.inside.count c.args.index c.self.inside.cached.items c.self.inside.queue.entries
    (ap (λ v. slice_get v.out c.args.index) c.self.view_is ∙ c.requires) c.self.invariant.0

roomy : (c : goal.After-enqueue) → 0 < room_in c.self.inside.queue
roomy c =
    let few = few_parts c.self.inside.count c.self.inside.cached.items (c.self.inside.queue.entries ++ c.args.index ∷ []) (put c).once in
    let long = length-append c.self.inside.queue.entries (c.args.index ∷ []) in
    let (_, room, _, _, _, _) = c.self.invariant in
    omega (arith, few, long, room)

stands : (c : goal.After-enqueue) → c.enqueue.new.self ≡ with_more c.self.inside.queue (c.args.index ∷ [])
stands c =
    c.enqueue.ensures.entries ∙ ap (λ t. cond t (with_more c.self.inside.queue (c.args.index ∷ [])) c.self.inside.queue)
    (lt-ltb 0 (room_in c.self.inside.queue) (roomy c))

pub proved-requires : goal.proved-requires
proved-requires c = c.enqueue.ensures.taken ∙ lt-ltb 0 (room_in c.self.inside.queue) (roomy c)

pub invariant_of-self : goal.invariant_of-self
invariant_of-self c =
    let (_, room, small, few, none_cached, most) = c.self.invariant in
    let same = ap (λ q. q.count) (stands c.before) in (
      subst (λ q. AreOnce c.self.inside.count (c.self.inside.cached.items ++ q.entries)) (sym (stands c.before)) (put c.before).once,
      omega (arith, same, room),
      small,
      few,
      none_cached,
      most,
    )

pub returns : goal.returns
returns c =
    ap (view_of c.self.inside.cache c.self.inside.count c.self.inside.cached.items) (stands c.before)
    ∙ (ap (with_state (view_of c.self.inside.cache c.self.inside.count c.self.inside.cached.items c.self.inside.queue) (length c.self.inside.cached.items))
    (put c.before).out
    ∙ ap (λ v. put_back c.args.index v.cached v) c.self.view_is)

-- The index is last in the cache, or the cache has moved its end to the queue.
use Rattle.std.proofs.Common.{◌≡◌, ℕ, ◌<◌, true, ◌++◌, length, take, slice_get, Some, sym, ap, ap₂, ◌∙◌, subst, arith}
use lib.Seq.{length-take-le}
use Rattle.dp_pool.specs.Once.{absent}
use Rattle.dp_pool.specs.Queues.{IndexView, cached_after_put}
use Rattle.dp_pool.proofs.Views.{view_of, with_state, put_back, put_full, put_more}
use Rattle.dp_pool.proofs.Steps.{Back, pushed_back, pushed_long, pushed_few, flushed_back}
use Rattle.dp_pool.proofs.indexes.Indexes.put_cached.Goals as goal

-- the index was out
out_of : (v now : IndexView) (k : ℕ) → v ≡ now → slice_get now.out k ≡ Some true → slice_get v.out k ≡ Some true
out_of v now k is out = ap (λ v. slice_get v.out k) is ∙ out

above : (v now : IndexView) → v ≡ now → 0 < now.cache → 0 < v.cache
above v now is some = subst (λ v. 0 < v.cache) (sym is) some

pub move_out-requires-clause-room : goal.move_out-requires-clause-room
move_out-requires-clause-room c =
    let few = pushed_few c.self.inside.count c.args.index c.self.inside.cached.items c.self.inside.queue.entries c.push.new.self.items c.push.ensures.items
    (out_of _ c.args.self.now c.args.index c.self.view_is c.requires.out) c.self.invariant.0 in
    let (_, room, _, _, _, _) = c.self.invariant in
    omega (arith, few, room)

flushed : (c : goal.After-move_out) → Back c.self.inside.count (c.self.inside.cached.items ++ c.self.inside.queue.entries) (c.move_out.new.cached.items
    ++ c.move_out.new.queue.entries) c.args.index
flushed c =
    let n = c.self.inside.count in
    let old = c.self.inside.cached.items ++ c.self.inside.queue.entries in
    subst (λ xs. Back n old (xs ++ c.move_out.new.queue.entries) c.args.index) (sym c.move_out.ensures.cached)
    (subst (λ q. Back n old (take c.self.inside.cache c.push.new.self.items ++ q.entries) c.args.index) (sym c.move_out.ensures.queue)
    (flushed_back n c.args.index c.self.inside.cached.items c.self.inside.queue.entries c.push.new.self.items c.push.ensures.items
    (out_of _ c.args.self.now c.args.index c.self.view_is c.requires.out) c.self.invariant.0 c.self.inside.cache))

-- the cache keeps its size
keeps : (c : goal.After-move_out) → length c.move_out.new.cached.items ≡ c.self.inside.cache
keeps c =
    let full = c.if-len-self.true in
    let long = c.len.ensures.value in
    let some = above _ c.args.self.now c.self.view_is c.requires.cache in
    ap length c.move_out.ensures.cached ∙ length-take-le c.self.inside.cache c.push.new.self.items (omega (arith, full, long, some))

pub invariant_of-self : goal.invariant_of-self
invariant_of-self c =
    let (_, room, small, _, _, most) = c.self.invariant in
    let is = keeps c in let same = ap (λ q. q.count) c.move_out.ensures.queue in
    ((flushed c).once, omega (arith, same, room), small, omega (arith, is, small), λ none. is ∙ none, most)

pub invariant_of-self-else-len-self : goal.invariant_of-self-else-len-self
invariant_of-self-else-len-self c =
    let known = out_of _ c.args.self.now c.args.index c.self.view_is c.requires.out in
    let back = pushed_back c.self.inside.count c.args.index c.self.inside.cached.items c.self.inside.queue.entries c.push.new.self.items c.push.ensures.items
    known c.self.invariant.0 in
    let (_, room, small, _, _, most) = c.self.invariant in
    let short = c.if-len-self.false in
    let long = c.len.ensures.value in
    let some = above _ c.args.self.now c.self.view_is c.requires.cache in
    (back.once, room, small, omega (arith, small, short, long), λ none. absurd (omega (arith, none, some)), most)

pub returns-then-len-self : goal.returns-then-len-self
returns-then-len-self c =
    let old = view_of c.self.inside.cache c.self.inside.count c.self.inside.cached.items c.self.inside.queue in
    let some = above _ c.args.self.now c.self.view_is c.requires.cache in
    let known = out_of _ c.args.self.now c.args.index c.self.view_is c.requires.out in
    let pushed = pushed_long c.self.inside.count c.args.index c.self.inside.cached.items c.self.inside.queue.entries c.push.new.self.items
    c.push.ensures.items known c.self.invariant.0 in
    let full = c.if-len-self.true in
    let long = c.len.ensures.value in
    let cached : length c.move_out.new.cached.items ≡ cached_after_put c.self.inside.cache (length c.self.inside.cached.items) =
    keeps c ∙ sym (put_full c.self.inside.cache (length c.self.inside.cached.items) some (omega (arith, full, long, pushed))) in
    ap (view_of c.self.inside.cache c.self.inside.count c.move_out.new.cached.items) c.move_out.ensures.queue
    ∙ (ap₂ (with_state old) cached (ap (λ q. absent c.self.inside.count (c.move_out.new.cached.items ++ q.entries)) (sym c.move_out.ensures.queue)
    ∙ (flushed c).out)
    ∙ ap (λ v. put_back c.args.index (cached_after_put v.cache v.cached) v) c.self.view_is)

pub returns-else-len-self : goal.returns-else-len-self
returns-else-len-self c =
    let old = view_of c.self.inside.cache c.self.inside.count c.self.inside.cached.items c.self.inside.queue in
    let some = above _ c.args.self.now c.self.view_is c.requires.cache in
    let known = out_of _ c.args.self.now c.args.index c.self.view_is c.requires.out in
    let back = pushed_back c.self.inside.count c.args.index c.self.inside.cached.items c.self.inside.queue.entries c.push.new.self.items c.push.ensures.items
    known c.self.invariant.0 in
    let long = pushed_long c.self.inside.count c.args.index c.self.inside.cached.items c.self.inside.queue.entries c.push.new.self.items c.push.ensures.items
    known c.self.invariant.0 in
    let room = c.if-len-self.false in
    let is_long = c.len.ensures.value in
    let cached : length c.push.new.self.items ≡ cached_after_put c.self.inside.cache (length c.self.inside.cached.items) =
    long ∙ sym (put_more c.self.inside.cache (length c.self.inside.cached.items) some (omega (arith, room, is_long, long))) in
    ap₂ (with_state old) cached back.out
    ∙ ap (λ v. put_back c.args.index (cached_after_put v.cache v.cached) v) c.self.view_is

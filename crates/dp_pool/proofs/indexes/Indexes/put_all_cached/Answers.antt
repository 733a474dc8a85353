-- The indexes are appended to the cache.
use Rattle.std.proofs.Common.{◌≡◌, ◌<◌, ◌++◌, length, sym, ap, subst, ◌∙◌, arith, length-append}
use Rattle.dp_pool.specs.Once.{AreOnce}
use Rattle.dp_pool.specs.Queues.{AreOut, all_returned}
use Rattle.dp_pool.proofs.Cached.{end_returned}
use Rattle.dp_pool.proofs.Views.{view_of}
use Rattle.dp_pool.proofs.indexes.Indexes.put_all_cached.Goals as goal

some : (c : goal.After-extend) → 0 < c.self.inside.cache
some c = subst (λ v. 0 < v.cache) (sym c.self.view_is) c.requires.cache

back : (c : goal.After-extend) → (view_of c.self.inside.cache c.self.inside.count (c.self.inside.cached.items ++ c.args.indexes.now) c.self.inside.queue
    ≡ all_returned (view_of c.self.inside.cache c.self.inside.count c.self.inside.cached.items c.self.inside.queue) c.args.indexes.now)
    × AreOnce c.self.inside.count ((c.self.inside.cached.items ++ c.args.indexes.now) ++ c.self.inside.queue.entries)
back c =
    let room = c.requires.room in
    let cache = ap (λ v. v.cache) c.self.view_is in
    let cached = ap (λ v. v.cached) c.self.view_is in
    end_returned c.self.inside.count c.self.inside.cache c.args.indexes.now c.self.inside.cached.items c.self.inside.queue (some c)
    (omega (arith, room, cache, cached)) (subst (λ v. AreOut v.out c.args.indexes.now) (sym c.self.view_is) c.requires.out) c.self.invariant.0

pub extend-requires : goal.extend-requires
extend-requires c =
    let room = c.requires.room in
    let cache = ap (λ v. v.cache) c.self.view_is in
    let cached = ap (λ v. v.cached) c.self.view_is in
    let (_, _, small, _, _, _) = c.self.invariant in
    omega (arith, room, cache, cached, small)

pub invariant_of-self : goal.invariant_of-self
invariant_of-self c =
    let long = ap length c.extend.ensures ∙ length-append c.self.inside.cached.items c.args.indexes.now in
    let room = c.requires.room in
    let cache = ap (λ v. v.cache) c.self.view_is in
    let cached = ap (λ v. v.cached) c.self.view_is in
    let (_, queue_room, small, _, _, most) = c.self.invariant in
    let above = some c in (
      subst (λ xs. AreOnce c.self.inside.count (xs ++ c.self.inside.queue.entries)) (sym c.extend.ensures) (back c).1,
      queue_room,
      small,
      omega (arith, long, room, cache, cached, small),
      λ none. absurd (omega (arith, none, above)),
      most,
    )

pub returns : goal.returns
returns c =
    ap (λ xs. view_of c.self.inside.cache c.self.inside.count xs c.self.inside.queue) c.extend.ensures
    ∙ ((back c).0 ∙ ap (λ v. all_returned v c.args.indexes.now) c.self.view_is)

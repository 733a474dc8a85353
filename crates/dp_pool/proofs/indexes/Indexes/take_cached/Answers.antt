-- The end of the cache is taken.
use Rattle.std.proofs.Common.{◌≡◌, ◌-◌, ◌∙◌, ◌++◌, length, take, drop, ap, subst, arith}
use Rattle.std.proofs.lemmas.List.{take_rest}
use Rattle.dp_pool.specs.Once.{AreOnce}
use Rattle.dp_pool.specs.Queues.{AreHanded}
use Rattle.dp_pool.proofs.Cached.{taken_cached}
use Rattle.dp_pool.proofs.Views.{view_of}
use Rattle.dp_pool.proofs.indexes.Indexes.take_cached.Goals as goal

left : (c : goal.After-truncate) → AreHanded (view_of c.self.inside.cache c.self.inside.count c.self.inside.cached.items c.self.inside.queue)
    c.copy_from_slice.new.self (view_of c.self.inside.cache c.self.inside.count c.truncate.new.self.items c.self.inside.queue)
    × AreOnce c.self.inside.count (c.truncate.new.self.items ++ c.self.inside.queue.entries)
left c =
    let (once, _, _, _, none_cached, _) = c.self.invariant in
    let n = c.len.result - length c.args.indexes.now in
    let last : c.copy_from_slice.new.self ≡ drop n c.self.inside.cached.items = c.copy_from_slice.ensures.after
    ∙ (ap (λ xs. take (length xs - n) (drop n xs)) c.as_slice.ensures.value ∙ take_rest c.self.inside.cached.items n) in
    taken_cached c.self.inside.count c.self.inside.cache n c.self.inside.cached.items c.truncate.new.self.items c.copy_from_slice.new.self c.self.inside.queue
    none_cached once c.truncate.ensures.items last

pub invariant_of-self : goal.invariant_of-self
invariant_of-self c =
    let (_, room, small, few, none_cached, most) = c.self.invariant in
    let fewer = c.truncate.ensures.len in ((left c).1, room, small, omega (arith, fewer, few), λ none. omega (arith, fewer, none_cached none), most)

pub returns-clause-handed : goal.returns-clause-handed
returns-clause-handed c =
    subst (λ v. AreHanded v c.copy_from_slice.new.self (view_of c.self.inside.cache c.self.inside.count c.truncate.new.self.items c.self.inside.queue))
    c.self.view_is (left c).0

-- The last of the cache is taken.
use Rattle.std.proofs.Common.{◌≡◌, ◌+◌, ◌-◌, ◌∷◌, [], ◌++◌, length, slice_get, sym, ap, ap₂, ◌∙◌, arith, length-append}
use Rattle.std.specs.Prelude.{option_to_list}
use Rattle.dp_pool.proofs.Views.{view_of, with_state, got_cached}
use Rattle.dp_pool.proofs.Steps.{Gone, gone_cached}
use Rattle.dp_pool.proofs.indexes.Indexes.next_cached.Goals as goal

split : (c : goal.In-Some) → c.self.inside.cached.items ≡ c.pop.new.self.items ++ c.in-Some.index ∷ []
split c = c.pop.ensures.items ∙ ap (λ o. c.pop.new.self.items ++ option_to_list o) c.in-Some.is

left : (c : goal.In-Some) → Gone c.self.inside.count (c.self.inside.cached.items ++ c.self.inside.queue.entries) (c.pop.new.self.items
    ++ c.self.inside.queue.entries) c.in-Some.index
left c = gone_cached c.self.inside.count c.in-Some.index c.self.inside.cached.items c.pop.new.self.items c.self.inside.queue.entries
    (split c) c.self.invariant.0

one_less : (c : goal.In-Some) → length c.self.inside.cached.items ≡ length c.pop.new.self.items + 1
one_less c = ap length (split c) ∙ length-append c.pop.new.self.items (c.in-Some.index ∷ [])

pub invariant_of-self : goal.invariant_of-self
invariant_of-self c =
    let (_, room, small, few, none_cached, most) = c.self.invariant in
    let less = one_less c in ((left c).once, room, small, omega (arith, less, few), λ is. omega (arith, none_cached is, less), most)

pub returns-clause-was_in : goal.returns-clause-was_in
returns-clause-was_in c = ap (λ v. slice_get v.out c.in-Some.index) (sym c.self.view_is) ∙ (left c).was_in

pub returns-clause-out : goal.returns-clause-out
returns-clause-out c =
    let fewer : length c.pop.new.self.items ≡ length c.self.inside.cached.items - 1 = let less = one_less c in omega (arith, less) in
    let out = (left c).out in
    ap₂ (with_state (view_of c.self.inside.cache c.self.inside.count c.self.inside.cached.items c.self.inside.queue)) fewer out
    ∙ ap (got_cached c.in-Some.index) c.self.view_is

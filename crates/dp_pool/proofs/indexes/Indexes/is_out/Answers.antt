-- An index is out exactly if it is below the number and neither in the cache nor in the queue.
use Rattle.std.proofs.Common.{not, ◌&&◌, eqb, ◌++◌, sym, ap, ap₂, ◌∙◌}
use Rattle.std.specs.List.{list_any}
use Rattle.dp_pool.specs.Pools.{is_out_in}
use Rattle.dp_pool.proofs.Upto.{out_is, past_is_not_out}
use Rattle.dp_pool.proofs.indexes.Indexes.is_out.Goals as goal

pub returns-then-index-self : goal.returns-then-index-self
returns-then-index-self c =
    past_is_not_out c.self.inside.count c.args.index (c.self.inside.cached.items ++ c.self.inside.queue.entries) c.if-index-self.true
    ∙ ap (λ v. is_out_in v.out c.args.index) c.self.view_is

pub returns-then-not-is_one_of : goal.returns-then-not-is_one_of
returns-then-not-is_one_of c =
    let in_cache = sym c.if-not-is_one_of.true ∙ (c.is_one_of.ensures ∙ ap (λ xs. list_any (λ x. eqb x c.args.index) xs) c.as_slice.ensures.value) in
    ap₂ (λ a b. not a && not b) in_cache c.contains.ensures
    ∙ (out_is c.self.inside.count c.args.index c.self.inside.cached.items c.self.inside.queue.entries c.if-index-self.false
    ∙ ap (λ v. is_out_in v.out c.args.index) c.self.view_is)

pub returns-else-not-is_one_of : goal.returns-else-not-is_one_of
returns-else-not-is_one_of c =
    let in_cache = sym c.if-not-is_one_of.false ∙ (c.is_one_of.ensures ∙ ap (λ xs. list_any (λ x. eqb x c.args.index) xs) c.as_slice.ensures.value) in
    ap not c.if-not-is_one_of.false
    ∙ (ap (λ a. not a && not (list_any (λ x. eqb x c.args.index) c.self.inside.queue.entries)) in_cache
    ∙ (out_is c.self.inside.count c.args.index c.self.inside.cached.items c.self.inside.queue.entries c.if-index-self.false
    ∙ ap (λ v. is_out_in v.out c.args.index) c.self.view_is))

-- An object of the pool is taken, or none is in.
use Rattle.std.proofs.Common.{◌≡◌, refl, sym, ap, ◌∙◌, arith}
use Rattle.dp_pool.specs.Queues.{in_count}
use Rattle.dp_mbuf.specs.Objects.{pool_in}
use Rattle.dp_mbuf.proofs.ObjectCalls.{listed as pool_listed, filled, pool_is, take_done, take_none, index_small}
use Rattle.dp_mbuf.proofs.objects.Objects.take.Goals as goal
use Rattle.dp_mbuf.proofs.objects.Objects.take.Goals.{After-pool_mut}

-- the pool at hand
hand : (c : After-pool_mut) → c.pool_mut.result.now ≡ pool_in c.args.self.now c.args.pool
hand c = pool_is _ _ c.self.view_is c.self.invariant _ c.args.pool c.from.ensures c.requires _ _ c.pool_mut.ensures.value

pub listed : goal.listed
listed c = (pool_listed _ _ c.self.view_is c.self.invariant _ c.args.pool c.from.ensures c.requires).0

pub bounds-self-inside-from : goal.bounds-self-inside-from
bounds-self-inside-from c = (pool_listed _ _ c.self.view_is c.self.invariant _ c.args.pool c.from.ensures c.requires).1

pub pool_mut-requires : goal.pool_mut-requires
pool_mut-requires c = filled _ _ c.self.view_is c.self.invariant _ c.args.pool c.from.ensures c.requires _

pub returns-in_err-index : goal.returns-in_err-index
returns-in_err-index c =
    let p = hand (goal.at.returns-in_err-index c).After-pool_mut in
    rw c.from_residual.ensures (
      ap (λ x. in_count x.out) (sym p) ∙ c.in_err-index.ensures.0,
      take_none _ _ c.self.view_is c.self.invariant _ c.args.pool c.from.ensures c.requires _ c.get.new.self p c.in_err-index.ensures.1,
    )

pub overflow_cast-index : goal.overflow_cast-index
overflow_cast-index c =
    omega (
      arith,
      index_small _ _ c.self.view_is c.self.invariant c.args.pool c.in_ok-index.index _ c.requires
          (hand (goal.at.overflow_cast-index c).After-pool_mut) c.in_ok-index.ensures.0,
    )

pub invariant_of-self-2 : goal.invariant_of-self-2
invariant_of-self-2 c =
    (take_done _ _ c.self.view_is c.self.invariant _ c.args.pool c.from.ensures c.requires c.in_ok-index.index _ c.get.new.self
    (hand (goal.at.invariant_of-self-2 c).After-pool_mut) c.in_ok-index.ensures.0 c.in_ok-index.ensures.1).0

pub returns : goal.returns
returns c =
    rw c.new.ensures (
      refl,
      (take_done _ _ c.self.view_is c.self.invariant _ c.args.pool c.from.ensures c.requires c.in_ok-index.index _ c.get.new.self
          (hand (goal.at.returns c).After-pool_mut) c.in_ok-index.ensures.0 c.in_ok-index.ensures.1).1,
    )

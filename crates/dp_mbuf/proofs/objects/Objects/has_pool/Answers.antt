-- A pool is there where its slot is filled.
use Rattle.std.proofs.Common.{◌≡◌, ◌<◌, refl, true, false, ap, subst, arith, length}
use Rattle.std.specs.Prelude.{IsTrue}
use Rattle.dp_mbuf.proofs.ObjectLemmas.{filled_iff, present_below}
use Rattle.dp_mbuf.proofs.objects.Objects.has_pool.Goals as goal

pub returns : goal.returns
returns c =
    subst (λ n. (IsTrue c.is_filled.result → n < length c.args.self.now) × (n < length c.args.self.now → IsTrue c.is_filled.result)) c.from-k.ensures
    (filled_iff c.self.inside.pools c.args.self.now c.from-k.result c.index-pools-k.result _ c.is_filled.result c.self.view_is c.self.invariant.1
    (omega (arith, c.if-k-ge-MAX_POOLS.false, c.self.invariant.0)) refl c.is_filled.ensures)

pub returns-then-k-ge-MAX_POOLS : goal.returns-then-k-ge-MAX_POOLS
returns-then-k-ge-MAX_POOLS c = (
  λ t. absurd (let y : false ≡ true = t in cc),
  λ h. absurd (let few = present_below c.self.inside.pools in let same = ap length c.self.view_is in
      omega (arith, h, few, same, c.self.invariant.0, c.from-k.ensures, c.if-k-ge-MAX_POOLS.true)),
)

-- The slot of an object's pool, as goals of calls ask for it.
use Rattle.std.proofs.Common.{◌≡◌, ℕ, ◌<◌, true, List, length, Option, Some, ◌∙◌, get_or}
use Rattle.std.specs.Prelude.{is_some}
use Rattle.dp_model.specs.Buffers.{Number}
use Rattle.dp_pool.specs.Pools.{PoolView}
use Rattle.dp_mbuf.specs.Objects.{present, HasObject, ArePoolSlots}
use Rattle.dp_mbuf.proofs.ObjectLemmas.{object_pool}
use Rattle.dp_mbuf.proofs.ObjectCalls.{listed as listed_at, filled as filled_at, in_slot}

module _ (pools : List (Option PoolView)) (ps : List PoolView) (n : Number) (j k : ℕ) (e : present pools ≡ ps) (inv : ArePoolSlots pools)
    (there : HasObject ps n) (ej : j ≡ k) (ek : k ≡ n.pool) where
  pub listed : j < length pools
  listed = (listed_at pools ps e inv j n.pool (ej ∙ ek) (object_pool ps n there)).0

  pub below : j < 8
  below = (listed_at pools ps e inv j n.pool (ej ∙ ek) (object_pool ps n there)).1

  pub filled : (d : Option PoolView) → is_some (get_or pools j d) ≡ true
  filled d = filled_at pools ps e inv j n.pool (ej ∙ ek) (object_pool ps n there) d

  pub object : (d : Option PoolView) (p : PoolView) (i m : ℕ) → get_or pools j d ≡ Some p → i ≡ m → m ≡ n.index → i < length p.objects
  object d p i m is ei em = (in_slot pools ps e inv n j i d p (ej ∙ ek) (ei ∙ em) there is).below

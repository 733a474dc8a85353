-- Internal: the memory laid out for an environment.
use Rattle.std.specs.Prelude.{◌≡◌, ℕ, ◌+◌, ◌*◌}
use Rattle.dp_region.specs.Ownership.{Home}
use Rattle.dp_model.specs.Environments.{Environment}
use Rattle.dp_mbuf.specs.Objects.{present, specs_of}
use Rattle.dp_mbuf.specs.Mbufs.{AreReady}
use Rattle.dp_engine.specs.declared.memory.Parts.{Parts}
use Rattle.dp_engine.specs.Needs.{ring_counts, list_counts}
use Rattle.dp_engine.specs.Memories.{EngineMemoryView, AreFilled, IsNewRing, RingsIn, PoolsIn, filled}

-- all lie in zones of the region
abbrev pub PartsIn : Home → Parts → Type 0
PartsIn home parts = PoolsIn home parts.pools × RingsIn home parts.rings × RingsIn home parts.lists

-- the number of their zones
abbrev pub zones_in : Parts → ℕ
zones_in parts = 2 * filled parts.pools + filled parts.rings + filled parts.lists

-- the memory and its parts, in a region of this size: a pool of mbufs for each pool of the environment, an empty ring for each ring and each port, in
-- order, and no other zones
pub record IsLaidOut (home : Home) (size : ℕ) (env : Environment) (memory : EngineMemoryView) (parts : Parts) : Type 0 where
  pub home_is : memory.home ≡ home
  pub size_is : memory.size ≡ size
  pub ready : AreReady parts.pools
  pub pools : specs_of (present parts.pools) ≡ env.pools
  pub rings : AreFilled (IsNewRing home) (ring_counts env) parts.rings
  pub lists : AreFilled (IsNewRing home) (list_counts env) parts.lists
  pub stand : PartsIn memory.home parts
  pub out : zones_in parts ≡ memory.out

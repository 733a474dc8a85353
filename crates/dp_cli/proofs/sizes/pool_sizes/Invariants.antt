use Rattle.std.proofs.Common.{◌≡◌, map, take}
use Rattle.dp_cli.specs.Sizes.{pool_size}
use Rattle.dp_cli.proofs.sizes.pool_sizes.Given as goal

abbrev pub invariant-loop-pool : goal.invariant-loop-pool
invariant-loop-pool l = l.sizes.items ≡ map pool_size (take l.pool-index l.pools)

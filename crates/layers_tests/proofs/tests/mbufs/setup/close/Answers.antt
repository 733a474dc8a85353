-- `close`: the pools are in the region of the heap.
use Rattle.std.proofs.Common.{sym, subst}
use Rattle.layers_tests.specs.Rows.{AreIn}
use Rattle.layers_tests.proofs.RowLemmas.{slots_in}
use Rattle.layers_tests.proofs.tests.mbufs.setup.close.Goals as goal

pub unmake_all-requires : goal.unmake_all-requires
unmake_all-requires g c =
    slots_in _ _ c.into_pools.ensures.first (subst (AreIn _) (sym c.into_pools.ensures.zones) c.requires)

-- Between two calls the first two pools have room to receive into, and the zones are those at the start.
use Rattle.std.proofs.Common.{◌≡◌}
use Rattle.layers_tests.specs.Rows.{IsOver}
use Rattle.layers_tests.proofs.tests.mbufs.walk.walk_all.Given as goal

abbrev pub invariant-loop : goal.invariant-loop
invariant-loop g l = record { over : IsOver l.m.store; zones : l.m.zones ≡ l.fn.m.zones }

abbrev pub invariant-loop-2 : goal.invariant-loop-2
invariant-loop-2 g l = record { over : IsOver l.m.store; zones : l.m.zones ≡ l.fn.m.zones }

-- The first two pools have room to receive into, and the zones are those at the start.
use Rattle.std.proofs.Common.{◌≡◌}
use Rattle.layers_tests.specs.Rows.{IsOver}
use Rattle.layers_tests.proofs.tests.mbufs.rows.differs.Given as goal

abbrev pub invariant-loop-k : goal.invariant-loop-k
invariant-loop-k g l = record { over : IsOver l.m.store; zones : l.m.zones ≡ l.fn.m.zones }

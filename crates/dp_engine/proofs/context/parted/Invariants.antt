use Rattle.std.proofs.Common.{◌≡◌, ◌++◌, drop, take}
use Rattle.std.specs.List.{AllByRecursion}
use Rattle.std.specs.Vec.Iter.{into_iter_items}
use Rattle.dp_check.specs.Faults.{IsChecked}
use Rattle.dp_engine.specs.Schemes.{programs_of}
use Rattle.dp_engine.proofs.context.parted.Given as goal

abbrev pub invariant-loop-node : goal.invariant-loop-node
invariant-loop-node g l = record {
  ports : l.of_ports.items ≡ take l.ports (programs_of l.yielded);
  rings : l.of_rings.items ≡ drop l.ports (programs_of l.yielded);
  all : l.yielded ++ into_iter_items l.node-iterator ≡ l.fn.nodes.items;
  checked : AllByRecursion IsChecked l.yielded;
}

-- `elements_of`: the elements of an array; none of another value.
use Rattle.std.proofs.Common.{map, sym}
use Rattle.toml.specs.View.{view}
use Rattle.dp_load.proofs.Elements.{array_elements_items}
use Rattle.dp_load.proofs.keys.elements_of.Goals as goal

pub returns-in-Some : goal.returns-in-Some
returns-in-Some c = rw (c.as_slice.ensures.value, ← c.in-Some.ensures) (sym (array_elements_items (map view c.in-Some.elements.now.items)))

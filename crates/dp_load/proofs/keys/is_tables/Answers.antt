-- `is_tables`: an array whose elements are tables.
use Rattle.std.proofs.Common.{sym, ◌∙◌}
use Rattle.toml.specs.View.{view}
use Rattle.dp_load.specs.Keys.{is_table}
use Rattle.dp_load.proofs.Elements.{all_elements}
use Rattle.dp_load.proofs.keys.is_tables.Goals as goal

pub returns-then-is_array : goal.returns-then-is_array
returns-then-is_array c =
    all_elements is_table (view c.args.value.now) c.elements_of.result.now c.are_tables.result (sym c.is_array.ensures
    ∙ c.if-is_array.true) c.elements_of.ensures c.are_tables.ensures

-- `has_only`: the keys of a table are among the known ones.
use Rattle.std.proofs.Common.{◌∙◌}
use Rattle.dp_load.proofs.Elements.{all_keys}
use Rattle.dp_load.proofs.keys.has_only.Goals as goal

pub returns : goal.returns
returns c = c.are_among.ensures ∙ all_keys c.args.keys.now c.args.table.now.entries

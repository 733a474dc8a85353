-- What was read so far, before what is still to be read, is the whole array.
use Rattle.std.proofs.Common.{◌≡◌, drop, map}
use Rattle.dp_load.specs.Setup.{each}
use Rattle.dp_load.specs.Views.{values}
use Rattle.dp_load.proofs.Each.{prepend}
use Rattle.dp_load.proofs.reader.parts_in.Given as goal

abbrev pub invariant-loop-index : goal.invariant-loop-index
invariant-loop-index g l =
    prepend (map g.P.ArrayPart.meaning l.parts.items) (each l.part g.P.ArrayPart.read l.index (values (drop l.index l.elements)))
    ≡ each l.part g.P.ArrayPart.read 0 (values l.elements)

-- The entries of a table as values.
use Rattle.std.specs.Prelude.{List, map}
use Rattle.dp_zone.specs.declared.zones.Reservation.{Reservation}
use Rattle.dp_zone.specs.Zones.{Reserved}

-- an entry as what the table knows of its zone
abbrev pub entry_of : Reservation → Reserved
entry_of e = record { name = e.name.bytes; offset = e.offset; len = e.len }

abbrev pub table_of : List Reservation → List Reserved
table_of entries = map entry_of entries

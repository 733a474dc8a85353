-- The lines of the rows so far are written.
use Rattle.std.proofs.Common.{◌≡◌, ◌++◌, take}
use Rattle.std.specs.List.{flat_map}
use Rattle.dp_cert.specs.Spelling.{row_line}
use Rattle.dp_cert.proofs.encoding.encode_rows.Given as goal

abbrev pub invariant-loop-row : goal.invariant-loop-row
invariant-loop-row l = l.out.items ≡ l.head ++ flat_map row_line (take l.row-index l.rows)

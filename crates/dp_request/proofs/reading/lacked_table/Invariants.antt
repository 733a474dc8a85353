-- The first such table of all files is that of the files that are left.
use Rattle.std.specs.Prelude.{◌≡◌, drop, find, map, nat_le}
use Rattle.dp_request.proofs.reading.lacked_table.Given as goal

abbrev pub invariant-loop-file : goal.invariant-loop-file
invariant-loop-file l = find (λ table. nat_le l.env.tables table) (map (λ file. file.table) (drop l.file-index l.files))
    ≡ find (λ table. nat_le l.env.tables table) (map (λ file. file.table) l.files)

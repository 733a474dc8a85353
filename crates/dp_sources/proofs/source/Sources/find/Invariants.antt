-- The file of this name is among those that are left.
use Rattle.std.specs.Prelude.{◌≡◌, drop, find, string_bytes}
use Rattle.std.specs.Str.{bytes_eq}
use Rattle.dp_sources.proofs.source.Sources.find.Given as goal

abbrev pub invariant-loop-file : goal.invariant-loop-file
invariant-loop-file l = find (λ file. bytes_eq (string_bytes file.name) l.name) (drop l.file-index l.self.files.items)
    ≡ find (λ file. bytes_eq (string_bytes file.name) l.name) l.self.files.items

-- The files that a command reads.
use Rattle.std.specs.Prelude.{ℕ, List, Option, Some, None, find, is_none, string_bytes, if◌then◌else◌}
use Rattle.std.specs.Option.{option_and_then}
use Rattle.std.specs.Str.{bytes_eq}
use Rattle.dp_load.specs.Files.{FileMap}
use Rattle.dp_sources.specs.declared.source.Source.{Source}
use Rattle.dp_sources.specs.declared.source.Sources.{Sources}

-- the bytes of a file, if it was read
abbrev pub bytes_of : Source → Option (List ℕ)
bytes_of file = if is_none file.error then Some file.bytes.items else None

-- the bytes of each file that was read, by its name
abbrev pub files_of : Sources → FileMap
files_of sources name = option_and_then bytes_of (find (λ file. bytes_eq (string_bytes file.name) name) sources.files.items)

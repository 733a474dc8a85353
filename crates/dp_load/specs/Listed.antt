-- Files in a list.
use Rattle.std.specs.Prelude.{List, find, option_map}
use Rattle.std.specs.Str.{bytes_eq}
use Rattle.dp_load.specs.declared.listed.NamedBytes.{NamedBytes}
use Rattle.dp_load.specs.Files.{FileMap}

-- the bytes of the first file of each name
abbrev pub listed : List NamedBytes → FileMap
listed files name = option_map (λ file. file.bytes.now) (find (λ file. bytes_eq file.name.now name) files)

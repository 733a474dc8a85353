-- Files, as far as they are known.
use Rattle.std.specs.Prelude.{◌≡◌, ℕ, nat_le, List, length, Option, Some, None, if◌then◌else◌}

-- the bytes of each file, by its name
abbrev pub FileMap : Type 0
FileMap = List ℕ → Option (List ℕ)

-- the maximum size of a node's file, in bytes
abbrev pub max_file : ℕ
max_file = 1048576

-- the bytes of a file, if it exists and is not too long
abbrev pub if_short : Option (List ℕ) → Option (List ℕ)
if_short None = None
if_short (Some bytes) = if nat_le (length bytes) max_file then Some bytes else None

-- the bytes of a file that exists and is not too long
abbrev pub fetched : FileMap → List ℕ → Option (List ℕ)
fetched files name = if_short (files name)

-- if the files are known, the one of this name has these bytes
abbrev pub HasBytes : Option FileMap → List ℕ → List ℕ → Type 0
HasBytes contents name bytes = (files : FileMap) → contents ≡ Some files → files name ≡ Some bytes

-- if the files are known, none has this name
abbrev pub NoneIsNamed : Option FileMap → List ℕ → Type 0
NoneIsNamed contents name = (files : FileMap) → contents ≡ Some files → files name ≡ None

-- if the files are known, the one of this name has these bytes, which are not too many
abbrev pub IsFile : Option FileMap → List ℕ → List ℕ → Type 0
IsFile contents name bytes = (files : FileMap) → contents ≡ Some files → fetched files name ≡ Some bytes

-- if the files are known, none has this name, or it is too long
abbrev pub IsNoFile : Option FileMap → List ℕ → Type 0
IsNoFile contents name = (files : FileMap) → contents ≡ Some files → fetched files name ≡ None

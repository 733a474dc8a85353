-- How the files that a pipeline names are packed into one buffer.
use Rattle.std.specs.Prelude.{◌≡◌, ℕ, ◌≤◌, List, [], ◌∷◌, ◌++◌, length, drop, slice_index_or}
use Rattle.std.specs.Int.{w32, from_le_bytes}
use Rattle.std.specs.List.{AllByRecursion}
use Rattle.std.specs.Str.{IsUtf8}
use Rattle.dp_load.specs.declared.listed.NamedBytes.{NamedBytes}
use Rattle.dp_host.specs.declared.packed.TheConstants.{MAX_FILES}

-- the little-endian number in the first four bytes
abbrev pub first_number : List ℕ → ℕ
first_number bytes =
    from_le_bytes w32 (slice_index_or bytes 0 0 ∷ slice_index_or bytes 1 0 ∷ slice_index_or bytes 2 0 ∷ slice_index_or bytes 3 0 ∷ [])

-- the bytes are a file, then more: the lengths of its name and of its bytes, four bytes each, little-endian; its name and its bytes
pub record BeginsWithFile (bytes : List ℕ) (file : NamedBytes) (more : List ℕ) : Type 0 where
  pub head : List ℕ
  pub eight : length head ≡ 8
  pub name_length : first_number head ≡ length file.name.now
  pub bytes_length : first_number (drop 4 head) ≡ length file.bytes.now
  pub spelled : bytes ≡ head ++ (file.name.now ++ (file.bytes.now ++ more))

-- the bytes are these files, in order
abbrev pub AreFiles : List ℕ → List NamedBytes → Type 0
AreFiles bytes [] = bytes ≡ []
AreFiles bytes (file ∷ files) = (more : List ℕ) × BeginsWithFile bytes file more × AreFiles more files

-- the bytes are files, at most 64, whose names are UTF-8
pub record ArePacked (bytes : List ℕ) (files : List NamedBytes) : Type 0 where
  pub are_files : AreFiles bytes files
  pub few : length files ≤ MAX_FILES
  pub names : AllByRecursion (λ (file : NamedBytes). IsUtf8 file.name.now) files

-- the bytes are not packed as files should be
abbrev pub NotPacked : List ℕ → Type 0
NotPacked bytes = (files : List NamedBytes) → ArePacked bytes files → ⊥

-- the bytes begin with no file
abbrev pub BeginsWithNoFile : List ℕ → Type 0
BeginsWithNoFile bytes = (file : NamedBytes) (more : List ℕ) → IsUtf8 file.name.now → BeginsWithFile bytes file more → ⊥

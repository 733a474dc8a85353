-- Files of a run that none of its outputs is.
use Rattle.std.specs.Prelude.{◌≡◌, ℕ, List, [], ◌∷◌, ◌++◌, Option, None, Some, Bool, false, ◌==◌, ◌&&◌, find, map, string_bytes, ⊤}
use Rattle.std.specs.Str.{bytes_eq}
use Rattle.dp_pcap.specs.declared.of_buf_reader.OfBufReader.{OfBufReader}
use Rattle.dp_pcap.specs.declared.of_buf_writer.OfBufWriter.{OfBufWriter}
use Rattle.dp_captures.specs.declared.file_id.FileId.{FileId}
use Rattle.dp_captures.specs.declared.file_id.ReadFile.{ReadFile}
use Rattle.dp_captures.specs.declared.guard.Kept.{Kept}
use Rattle.dp_captures.specs.declared.guard.Target.{Target}
use Rattle.dp_captures.specs.declared.guard.Target.TheVariants.{There, New, Other}
use Rattle.dp_captures.specs.declared.guarded.Guarded.{Guarded}
use Rattle.dp_captures.specs.declared.input_file.InputFile.{InputFile}
use Rattle.dp_captures.specs.declared.output_file.OutputFile.{OutputFile}
use Rattle.dp_captures.specs.declared.watched.Watched.{Watched}
use Rattle.dp_captures.specs.Files.{input_file, output_file}

-- the name of a file that a run reads
abbrev pub read_name : ReadFile → List ℕ
read_name read = string_bytes read.name

-- whether two files or folders are the same: of the same device, and with the same number there
abbrev pub is_same_file : FileId → FileId → Bool
is_same_file left right = (left.device == right.device) && (left.number == right.number)

-- whether two files of a run are the same, existing or to be made
abbrev pub is_same_target : Target → Target → Bool
is_same_target (There one) (There other) = is_same_file one other
is_same_target (New folder name) (New other its) = is_same_file folder other && bytes_eq name.now its.now
is_same_target _ _ = false

-- the plain file that is open, if it is one
abbrev pub target_of : Option FileId → Target
target_of None = Other
target_of (Some id) = There id

-- what is read besides the captures, an input as it is open, and an output
abbrev pub read_target : ReadFile → Target
read_target read = target_of read.id

abbrev pub input_target : {F : Type 0} → OfBufReader (Watched (InputFile F)) → Target
input_target input = target_of (input_file input).id

abbrev pub output_target : {F : Type 0} → OfBufWriter (Guarded (OutputFile F)) → Target
output_target output = target_of (output_file output).id

abbrev pub targets : List Kept → List Target
targets kept = map (λ (one : Kept). one.target) kept

-- the files that a run reads, its inputs as they are open, and those to which texts go
abbrev pub AreFilesOf : {F : Type 0} → List ReadFile → List (OfBufReader (Watched (InputFile F))) → List Kept → Type 0
AreFilesOf reads inputs kept = (streams : List Target) × (targets kept ≡ map read_target reads ++ map input_target inputs ++ streams)

-- each output is none of the files before, nor an earlier output
abbrev pub AreApart : List Target → List Target → Type 0
AreApart before [] = ⊤
AreApart before (target ∷ more) = (find (is_same_target target) before ≡ None) × AreApart (before ++ target ∷ []) more

-- no open output is one of the files of a run, nor another output
pub record AreGuarded {F : Type 0} (reads : List ReadFile) (inputs : List (OfBufReader (Watched (InputFile F))))
    (outputs : List (OfBufWriter (Guarded (OutputFile F)))) : Type 0 where
  pub kept : List Kept
  pub files : AreFilesOf reads inputs kept
  pub apart : AreApart (targets kept) (map output_target outputs)

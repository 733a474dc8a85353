-- What clauses see of the captures of a run as they are open.
use Rattle.std.specs.Prelude.{◌≡◌, ℕ, false, List, [], ◌∷◌, map, Option, None, Some, ⊤}
use Rattle.std.specs.Io.Buffered.{reader_buffer, reader_inner}
use Rattle.dp_pcap.specs.Buffers.{writer_buffer, writer_inner}
use Rattle.dp_pcap.specs.declared.of_buf_reader.OfBufReader.{OfBufReader}
use Rattle.dp_pcap.specs.declared.of_buf_writer.OfBufWriter.{OfBufWriter}
use Rattle.dp_pcap.specs.Health.{fresh}
use Rattle.dp_pcap.specs.OfStd.{buffered_feed_health, buffered_reader, buffered_sink_health, buffered_writer}
use Rattle.dp_captures.specs.declared.guarded.Guarded.{Guarded}
use Rattle.dp_captures.specs.declared.input_file.InputFile.{InputFile}
use Rattle.dp_captures.specs.declared.input_file.Source.{Source}
use Rattle.dp_captures.specs.declared.input_file.Source.TheVariants as source
use Rattle.dp_captures.specs.declared.names.CaptureNames.{CaptureNames}
use Rattle.dp_captures.specs.declared.output_file.Destination.{Destination}
use Rattle.dp_captures.specs.declared.output_file.Destination.TheVariants as destination
use Rattle.dp_captures.specs.declared.output_file.OutputFile.{OutputFile}
use Rattle.dp_captures.specs.declared.watched.Watched.{Watched}
use Rattle.dp_captures.specs.declared.words.Place.{Place}
use Rattle.dp_captures.specs.declared.words.Place.TheVariants.{File, Stream, Nowhere}
use Rattle.dp_captures.specs.Names.{input_capture, output_capture}

-- ---- where a capture is

abbrev pub source_place : {F : Type 0} → Source F → Place
source_place (source.File file) = File
source_place (source.Stream stdin) = Stream
source_place (source.Nowhere left) = Nowhere

-- the bytes that are left of an input, if they are known: those of a file, or of the capture without records
abbrev pub source_left : {F : Type 0} → (F → Option (List ℕ)) → Source F → Option (List ℕ)
source_left remaining (source.File file) = remaining file
source_left remaining (source.Stream stdin) = None
source_left remaining (source.Nowhere left) = Some left.now

-- a capture without records: its header, with times in microseconds
abbrev pub empty_capture : List ℕ
empty_capture =
    212 ∷ 195 ∷ 178 ∷ 161 ∷ 2 ∷ 0 ∷ 4 ∷ 0 ∷ 0 ∷ 0 ∷ 0 ∷ 0 ∷ 0 ∷ 0 ∷ 0 ∷ 0 ∷ 0 ∷ 0 ∷ 4 ∷ 0 ∷ 1 ∷ 0 ∷ 0 ∷ 0 ∷ []

abbrev pub destination_place : {F : Type 0} → Destination F → Place
destination_place (destination.File file) = File
destination_place (destination.Stream stdout) = Stream
destination_place destination.Nowhere = Nowhere

-- the bytes of an output, if they are known
abbrev pub destination_contents : {F : Type 0} → (F → Option (List ℕ)) → Destination F → Option (List ℕ)
destination_contents contents (destination.File file) = contents file
destination_contents contents (destination.Stream stdout) = None
destination_contents contents destination.Nowhere = None

-- ---- before a run

-- the whole capture without records is left of an input that is nowhere
abbrev pub IsEmpty : {F : Type 0} → Source F → Type 0
IsEmpty (source.File file) = ⊤
IsEmpty (source.Stream stdin) = ⊤
IsEmpty (source.Nowhere left) = left.now ≡ empty_capture

-- an input of which nothing was read
abbrev pub IsUnread : {F : Type 0} → InputFile F → Type 0
IsUnread input = (input.reads.count ≡ 0) × IsEmpty input.source

-- an output to which nothing was written, and whose file still has its old content
abbrev pub IsUnwritten : {F : Type 0} → OutputFile F → Type 0
IsUnwritten output = (output.writes.count ≡ 0) × (output.is_emptied ≡ false)

-- ---- the captures of a run

-- the file of an input, and that of an output
abbrev pub input_file : {F : Type 0} → OfBufReader (Watched (InputFile F)) → InputFile F
input_file {F} input = (reader_inner {T = Watched (InputFile F)} (buffered_reader input)).inner

abbrev pub output_file : {F : Type 0} → OfBufWriter (Guarded (OutputFile F)) → OutputFile F
output_file {F} output = (writer_inner {W = Guarded (OutputFile F)} (buffered_writer output)).inner

-- an input as it is opened: it is this capture, under this name; it is sound and was not called; no byte of it was read
pub record IsOpenedInput {F : Type 0} (capture : Place × List ℕ) (input : OfBufReader (Watched (InputFile F))) : Type 0 where
  pub place : source_place (input_file input).source ≡ capture.0
  pub name : (reader_inner {T = Watched (InputFile F)} (buffered_reader input)).of.pieces ≡ capture.1 ∷ []
  pub health : buffered_feed_health input ≡ fresh
  pub unbuffered : reader_buffer {T = Watched (InputFile F)} (buffered_reader input) ≡ []
  pub unread : IsUnread (input_file input)

-- an output as it is opened: it is this capture, under this name; it is sound and was not called; its file took no byte, and none is held for it
pub record IsOpenedOutput {F : Type 0} (capture : Place × List ℕ) (output : OfBufWriter (Guarded (OutputFile F))) : Type 0 where
  pub place : destination_place (output_file output).destination ≡ capture.0
  pub name : (writer_inner {W = Guarded (OutputFile F)} (buffered_writer output)).of.pieces ≡ capture.1 ∷ []
  pub health : buffered_sink_health output ≡ fresh
  pub unbuffered : writer_buffer {W = Guarded (OutputFile F)} (buffered_writer output) ≡ []
  pub took : (writer_inner {W = Guarded (OutputFile F)} (buffered_writer output)).took.pieces ≡ []
  pub unwritten : IsUnwritten (output_file output)

-- each of a list is opened as the capture at its place
abbrev pub AreOpened : {D : Type 0} → (Place × List ℕ → D → Type 0) → List (Place × List ℕ) → List D → Type 0
AreOpened IsOpened [] [] = ⊤
AreOpened IsOpened (capture ∷ captures) (d ∷ ds) = IsOpened capture d × AreOpened IsOpened captures ds
AreOpened IsOpened captures ds = ⊥

-- the inputs of a run are these captures, and its outputs those
abbrev pub AreInputs : {F : Type 0} → List CaptureNames → List (OfBufReader (Watched (InputFile F))) → Type 0
AreInputs names inputs = AreOpened IsOpenedInput (map input_capture names) inputs

abbrev pub AreOutputs : {F : Type 0} → List CaptureNames → List (OfBufWriter (Guarded (OutputFile F))) → Type 0
AreOutputs names outputs = AreOpened IsOpenedOutput (map output_capture names) outputs

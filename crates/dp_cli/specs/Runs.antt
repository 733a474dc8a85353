-- What the words of `dpv run`, `dpv one` and `dpv filter` give, and a run over the captures that are opened for a pipeline.
use Rattle.std.specs.Prelude.{◌≡◌, ℕ, ◌⊎◌, List, Bool, ◌&&◌, Option, Some, None, codes, map, nat_le, nat_lt, [], ◌∷◌, MatchResult, Result, option_and_then}
use Rattle.std.specs.Prelude.{option_map, if◌then◌else◌}
use Rattle.std.specs.{Io.Buffered.reader_remaining, List.list_any}
use Rattle.clap.specs.{Matches.first_value, declared.parser.matches.Found.Found}
use Rattle.dp_captures.specs.{Files.AreInputs, Files.AreOutputs, Files.source_left, Guarding.AreGuarded, Outlets.joined, Outputs.file_took}
use Rattle.dp_captures.specs.{Names.captures_from, Names.input_capture, Names.output_capture, Opening.IsFirstFault}
use Rattle.dp_captures.specs.Words.{is_stream, only, row_of, rows_of}
use Rattle.dp_captures.specs.declared.{faults.CaptureFault.CaptureFault, file_id.ReadFile.ReadFile, guarded.Guarded.Guarded}
use Rattle.dp_captures.specs.declared.{input_file.InputFile.InputFile, names.CaptureNames.CaptureNames, output_file.OutputFile.OutputFile}
use Rattle.dp_captures.specs.declared.{watched.Watched.Watched, words.Replaced.Replaced}
use Rattle.dp_captures.specs.declared.faults.CaptureFault.TheVariants as fault
use Rattle.dp_console.specs.declared.reply.Reply.{Reply}
use Rattle.dp_model.specs.Environments.{Environment}
use Rattle.dp_pcap.specs.OfStd.{buffered_feed_health, buffered_reader, buffered_sink_health, buffered_writer}
use Rattle.dp_pcap.specs.{Buffers.writer_contents, declared.of_buf_reader.OfBufReader.OfBufReader, declared.of_buf_writer.OfBufWriter.OfBufWriter}
use Rattle.dp_load.specs.{Pipelines.Plan, declared.single.SingleFiles.SingleFiles}
use Rattle.dp_pipe.specs.{Devices.Kind, Devices.kind, Running.answer_of, declared.forwarding.TheConstants.MAX_RUN_TURNS}
use Rattle.dp_runs.specs.{Replies.IsReplied, Replies.status_of, Watching.IsRunUnder, declared.closing.Flushed.Flushed, declared.run.Watcher.Watcher}
use Rattle.dp_request.specs.Operands.{IsFlag, number_in, operand, option_within, words_of}

-- what contracts see of an input: the bytes that are left of it, if they are known
abbrev pub inputs_kind : {F : Type 0} → (F → Option (List ℕ)) → Kind (OfBufReader (Watched (InputFile F)))
inputs_kind {F} remaining = kind (λ input. reader_remaining {T = Watched (InputFile F)} (λ watched. source_left remaining watched.inner.source)
    (buffered_reader input)) (λ input. (buffered_feed_health input).calls) (λ input. (buffered_feed_health input).is_broken)
    (λ input. (buffered_feed_health input).failures)

-- and of an output: the bytes that its file took and those that are held for it
abbrev pub outputs_kind : {F : Type 0} → Kind (OfBufWriter (Guarded (OutputFile F)))
outputs_kind {F} = kind (λ output. writer_contents {W = Guarded (OutputFile F)} (λ guarded. Some (joined guarded.took.pieces))
    (buffered_writer output)) (λ output. (buffered_sink_health output).calls) (λ output. (buffered_sink_health output).is_broken)
    (λ output. (buffered_sink_health output).failures)

abbrev pub file_taken : {F : Type 0} → OfBufWriter (Guarded (OutputFile F)) → Option (List ℕ)
file_taken output = Some (file_took (buffered_writer output))

-- whether one of these captures goes to standard output
abbrev pub takes_stdout : List Replaced → Bool
takes_stdout outputs = list_any (λ (one : Replaced). is_stream one.place) outputs

-- A run of a pipeline with these calls refused over captures that are open, and what is said of it: with `--json` a document.
pub record SaysRun {F : Type 0} (remaining : F → Option (List ℕ)) (found : Found) (p : Plan) (pattern : List ℕ) (is_taken : Bool)
    (ins ins' : List (OfBufReader (Watched (InputFile F)))) (outs outs' : List (OfBufWriter (Guarded (OutputFile F)))) (reply : Reply) : Type 0 where
  pub before : Watcher
  pub after : Watcher
  pub flushed : Flushed
  pub run : IsRunUnder before after p pattern (inputs_kind remaining) ins ins' outputs_kind file_taken outs outs' flushed
  pub is_json : Bool
  pub json : IsFlag found (codes "json") is_json
  pub said : IsReplied is_json is_taken flushed.answer reply
  pub status_is : reply.status ≡ status_of (answer_of flushed.answer)

-- the captures of a pipeline: those that are given for its ports, and else the files that it names
pub record AreCaptures (p : Plan) (inputs outputs : List Replaced) (names : List CaptureNames) : Type 0 where
  pub read : map input_capture names ≡ captures_from inputs 0 p.inputs
  pub written : map output_capture names ≡ captures_from outputs 0 p.outputs

-- A run of a pipeline over its captures. They are open, unread and unwritten; no output is a file that the run reads, nor another output.
pub record RunsOver {F : Type 0} (remaining : F → Option (List ℕ)) (found : Found) (p : Plan) (pattern : List ℕ) (inputs outputs : List Replaced)
    (reply : Reply) : Type 0 where
  pub names : List CaptureNames
  pub named : AreCaptures p inputs outputs names
  -- the captures, before the run and after it
  pub ins : List (OfBufReader (Watched (InputFile F)))
  pub ins' : List (OfBufReader (Watched (InputFile F)))
  pub outs : List (OfBufWriter (Guarded (OutputFile F)))
  pub outs' : List (OfBufWriter (Guarded (OutputFile F)))
  pub opened : AreInputs names ins
  pub made : AreOutputs names outs
  pub reads : List ReadFile
  pub guarded : AreGuarded reads ins outs
  pub says : SaysRun remaining found p pattern (takes_stdout outputs) ins ins' outs outs' reply

-- the status of captures that are not opened: 4 for lack of memory, else 3
abbrev pub status_unopened : CaptureFault → ℕ
status_unopened fault.Memory = 4
status_unopened (fault.File name problem) = 3

-- the captures of a pipeline were not opened, and the first fault of them gives the status
pub record HasUnopened {F : Type 0} (remaining : F → Option (List ℕ)) (p : Plan) (inputs outputs : List Replaced) (reply : Reply) : Type 0 where
  pub names : List CaptureNames
  pub named : AreCaptures p inputs outputs names
  pub ins : List (OfBufReader (Watched (InputFile F)))
  pub outs : List (OfBufWriter (Guarded (OutputFile F)))
  pub fault : CaptureFault
  pub first : IsFirstFault names ins outs fault
  pub status_is : reply.status ≡ status_unopened fault

-- the run did not begin: memory was refused, or the captures were not opened
abbrev pub NeverRuns : {F : Type 0} → (F → Option (List ℕ)) → Plan → List Replaced → List Replaced → Reply → Type 0
NeverRuns remaining p inputs outputs reply = (reply.status ≡ 4) ⊎ HasUnopened remaining p inputs outputs reply

-- a pipeline was run over its captures, or the run did not begin
abbrev pub EndsOver : {F : Type 0} → (F → Option (List ℕ)) → Found → Plan → List ℕ → List Replaced → List Replaced → Result Reply Reply → Type 0
EndsOver remaining found p pattern inputs outputs reply =
    MatchResult reply (RunsOver remaining found p pattern inputs outputs) (NeverRuns remaining p inputs outputs)

-- ---- what the words give

-- the captures that the words give ports in place of those that the pipeline names
pub record AreGiven (found : Found) (inputs outputs : List Replaced) : Type 0 where
  pub read : Some (map row_of inputs) ≡ rows_of (words_of found (codes "in")) (words_of found (codes "no-in"))
  pub written : Some (map row_of outputs) ≡ rows_of (words_of found (codes "out")) (words_of found (codes "no-out"))

-- the files that the words name for a program: with its certificate, or to be run with one that is inferred
pub record AreNamed (found : Found) (program : List ℕ) (cert : Option (List ℕ)) (files : SingleFiles) : Type 0 where
  pub program_is : files.program.now ≡ operand found program
  pub cert_is : option_map (λ name. name.now) files.cert ≡ cert
  pub input_is : files.input.now ≡ operand found (codes "IN")
  pub output_is : files.output.now ≡ operand found (codes "OUT")

-- the captures that the words name for a program: one to read, and one to write
abbrev pub ReadsAndWrites : SingleFiles → List Replaced → List Replaced → Type 0
ReadsAndWrites files inputs outputs = (map row_of inputs ≡ only files.input.now ∷ []) × (map row_of outputs ≡ only files.output.now ∷ [])

-- the environment of `dpv filter`: that of `dpv one`, with buffers of this room and packets of this many segments
abbrev pub filter_port : ℕ → ℕ → Environment
filter_port room segs = record {
  pools = record { count = 64; cache = 0; room = room } ∷ [];
  tables = 0;
  rings = [];
  ports = record { pool = 0; segs = segs; queue = 32 } ∷ [];
}

-- the room of a buffer, and the number of segments of a packet, that the words of `dpv filter` give
abbrev pub room_in : Found → Option ℕ
room_in found = option_within (first_value found (codes "room")) 2176 129 4096

abbrev pub segs_in : Found → Option ℕ
segs_in found = option_within (first_value found (codes "segs")) 1 1 64

-- the environment that they give
pub record IsFilterPort (found : Found) (env : Environment) : Type 0 where
  pub room : ℕ
  pub room_is : room_in found ≡ Some room
  pub segs : ℕ
  pub segs_is : segs_in found ≡ Some segs
  pub env_is : env ≡ filter_port room segs

-- a word as a number of records of a trace: from 1 to the maximum number of turns of a run
abbrev pub records_in : List ℕ → Option ℕ
records_in word = option_and_then (λ n. if nat_lt 0 n && nat_le n MAX_RUN_TURNS then Some n else None) (number_in word)

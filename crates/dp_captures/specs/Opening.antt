-- Which fault of the captures of a run is reported.
use Rattle.std.specs.Prelude.{◌≡◌, ℕ, ◌⊎◌, List, [], Some, length, option_map, slice_get, take, ⊤}
use Rattle.dp_pcap.specs.declared.of_buf_reader.OfBufReader.{OfBufReader}
use Rattle.dp_pcap.specs.declared.of_buf_writer.OfBufWriter.{OfBufWriter}
use Rattle.dp_captures.specs.declared.faults.CaptureFault.{CaptureFault}
use Rattle.dp_captures.specs.declared.faults.CaptureFault.TheVariants as fault
use Rattle.dp_captures.specs.declared.guarded.Guarded.{Guarded}
use Rattle.dp_captures.specs.declared.input_file.InputFile.{InputFile}
use Rattle.dp_captures.specs.declared.names.CaptureNames.{CaptureNames}
use Rattle.dp_captures.specs.declared.output_file.OutputFile.{OutputFile}
use Rattle.dp_captures.specs.declared.watched.Watched.{Watched}
use Rattle.dp_captures.specs.Files.{AreInputs, AreOutputs}
use Rattle.dp_captures.specs.Names.{input_capture, output_capture}

-- lack of memory, or a fault of the file with this name
abbrev pub IsOf : List ℕ → CaptureFault → Type 0
IsOf name fault.Memory = ⊤
IsOf name (fault.File named problem) = named.now ≡ name

-- lack of memory, or a fault of the input of this port
abbrev pub IsInput : List CaptureNames → ℕ → CaptureFault → Type 0
IsInput names port fault.Memory = ⊤
IsInput names port (fault.File named problem) = option_map (λ n. (input_capture n).1) (slice_get names port) ≡ Some named.now

-- lack of memory, or a fault of the output of a port
abbrev pub IsOutput : List CaptureNames → CaptureFault → Type 0
IsOutput names fault.Memory = ⊤
IsOutput names (fault.File named problem) = (port : ℕ) × (option_map (λ n. (output_capture n).1) (slice_get names port) ≡ Some named.now)

-- The captures of a run were not opened: an input could not be, those before it are open, and no output is; or all inputs are open, and the fault is of
-- an output.
abbrev pub IsFirstFault : {F : Type 0} → List CaptureNames → List (OfBufReader (Watched (InputFile F))) → List (OfBufWriter (Guarded (OutputFile F)))
    → CaptureFault → Type 0
IsFirstFault names inputs outputs fault =
    (AreInputs (take (length inputs) names) inputs × IsInput names (length inputs) fault × (outputs ≡ []))
    ⊎ (AreInputs names inputs × AreOutputs (take (length outputs) names) outputs × IsOutput names fault)

-- The captures of ports: the files that a pipeline names, or what is given in their place.
use Rattle.std.specs.Prelude.{ℕ, suc, List, [], ◌∷◌, string_bytes}
use Rattle.dp_captures.specs.declared.names.CaptureNames.{CaptureNames}
use Rattle.dp_captures.specs.declared.words.Place.{Place}
use Rattle.dp_captures.specs.declared.words.Replaced.{Replaced}
use Rattle.dp_captures.specs.Words.{capture_at}

-- the captures of a port: where they are, and their names
abbrev pub input_capture : CaptureNames → Place × List ℕ
input_capture port = (port.input_place, string_bytes port.input)

abbrev pub output_capture : CaptureNames → Place × List ℕ
output_capture port = (port.output_place, string_bytes port.output)

-- the captures of the ports from one on that a pipeline reads, or writes: those that are given, and else the files of these names
abbrev pub captures_from : List Replaced → ℕ → List (List ℕ) → List (Place × List ℕ)
captures_from given port [] = []
captures_from given port (name ∷ names) = capture_at given port name ∷ captures_from given (suc port) names

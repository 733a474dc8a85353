-- The lines of a text in which its instructions are.
use Rattle.std.specs.Prelude.{ℕ, List, map, Result, Ok}
use Rattle.std.specs.List.{slice_split}
use Rattle.dp_lang.specs.declared.cause.Fault.{Fault}
use Rattle.dp_lang.specs.Lines.{is_newline}
use Rattle.dp_lang.specs.Reading.{◌>>=◌, lines_of, nothing}

-- the line of each instruction, from 1; or the first line with a fault of its own
abbrev pub source_lines : List ℕ → Result (List ℕ) Fault
source_lines text = lines_of 1 nothing (slice_split is_newline text) >>= λ source. Ok (map (λ s. s.0) source.statements)

-- The lines of statements.
use Rattle.std.proofs.Common.{◌≡◌, List, [], ◌∷◌, map, Ok, refl, ap, sym, ◌∙◌}
use Rattle.std.specs.Prelude.{ℕ, Result}
use Rattle.std.specs.List.{slice_split}
use Rattle.dp_lang.specs.declared.cause.Fault.{Fault}
use Rattle.dp_lang.specs.declared.statement.Statement.{Statement}
use Rattle.dp_lang.specs.declared.source.ProgramSource.{ProgramSource}
use Rattle.dp_lang.specs.Lines.{is_newline}
use Rattle.dp_lang.specs.Reading as reading
use Rattle.dp_lang.specs.Reading.{◌>>=◌, lines_of, nothing}
use Rattle.dp_lang.specs.SourceLines.{source_lines}
use Rattle.dp_lang.specs.Sources as view

firsts : (statements : List Statement) → map (λ s. s.0) (map view.with_line statements) ≡ map (λ s. s.line) statements
firsts [] = refl
firsts (s ∷ statements) = ap (λ lines. s.line ∷ lines) (firsts statements)

pub lines_are : (text : List ℕ) (source : ProgramSource) (lines : List ℕ) → lines_of 1 nothing (slice_split is_newline text) ≡ Ok (view.source source)
    → lines ≡ map (λ s. s.line) source.statements.items → source_lines text ≡ Ok lines
lines_are text source lines read are =
    let then_lines : Result reading.ProgramSource Fault → Result (List ℕ) Fault = λ r. r >>= (λ source. Ok (map (λ s. s.0) source.statements)) in
    ap then_lines read ∙ ap Ok (firsts source.statements.items ∙ sym are)

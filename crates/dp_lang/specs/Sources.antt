-- Internal, no public contract names it: the values of the assembler's statements and labels.
use Rattle.std.specs.Prelude.{ℕ, List, Option, Some, None, map}
use Rattle.dp_lang.specs.declared.statement.Statement.{Statement}
use Rattle.dp_lang.specs.declared.source.ProgramSource.{ProgramSource}
use Rattle.dp_lang.specs.Forms as forms
use Rattle.dp_lang.specs.Reading as reading
use Rattle.dp_lang.specs.Views.{argument}

abbrev pub statement : Statement → forms.Statement (List ℕ)
statement s = record { form = s.form; arguments = map argument s.arguments.items }

abbrev pub some_statement : Option Statement → Option (forms.Statement (List ℕ))
some_statement None = None
some_statement (Some s) = Some (statement s)

abbrev pub with_line : Statement → ℕ × forms.Statement (List ℕ)
with_line s = (s.line, statement s)

abbrev pub source : ProgramSource → reading.ProgramSource
source s = record { labels = s.labels; statements = map with_line s.statements.items }

-- How a text is read: as one program, or as a fault: a line and a cause.
use Rattle.std.specs.Prelude.{◌≡◌, ℕ, ◌+◌, ◌==◌, nat_lt, List, [], ◌∷◌, ◌++◌, length, map, Option, Some, None, Result, Ok, Err, if◌then◌else◌}
use Rattle.std.specs.List.{slice_split, list_all, after_first}
use Rattle.std.specs.Ordering.{nat_cmp}
use Rattle.std.specs.Cmp.Lexicographic.{slice_cmp}
use Rattle.std.specs.FinMap.{FinMap, empty, get, insert, contains_key}
use Rattle.dp_model.specs.declared.instr.Instr.{Instr}
use Rattle.dp_lang.specs.declared.cause.Cause.{Cause}
use Rattle.dp_lang.specs.declared.cause.Cause.TheVariants.{BadByte, BadWord, BadOperands, BadLabel, LabelTwice, LabelUnknown, Size}
use Rattle.dp_lang.specs.declared.cause.Fault.{Fault}
use Rattle.dp_lang.specs.declared.cause.AsmError.{AsmError}
use Rattle.dp_lang.specs.declared.cause.AsmError.TheVariants as errors
use Rattle.dp_lang.specs.Arguments.{Argument, packet, register, constant, label}
use Rattle.dp_lang.specs.declared.form.OperandKind.{OperandKind}
use Rattle.dp_lang.specs.declared.form.Form.{Form}
use Rattle.dp_lang.specs.declared.program.TheConstants.{MAX_INSTRS}
use Rattle.dp_lang.specs.Causes.{least}
use Rattle.dp_lang.specs.Lines.{trim, is_blank, is_text, is_newline, pieces, labels_in, instruction_in, word_in, operands_in}
use Rattle.dp_lang.specs.Forms.{kinds_of, form_of, Statement, spelled}
use Rattle.dp_lang.specs.Kinds.{argument_of, is_name}

-- both, or the least cause
abbrev pub both : {A B : Type 0} → Result A Cause → Result B Cause → Result (A × B) Cause
both (Ok a) (Ok b) = Ok (a, b)
both (Ok a) (Err d) = Err d
both (Err c) (Ok b) = Err c
both (Err c) (Err d) = Err (least c d)

-- the first, and if it is there, then f of it
infixl 10 ◌>>=◌
abbrev pub ◌>>=◌ : {A B E : Type 0} → Result A E → (A → Result B E) → Result B E
(Ok x) >>= f = f x
(Err e) >>= f = Err e

-- ---- the instruction of a line

abbrev pub Named : Type 0
Named = Argument (List ℕ)

abbrev pub onto : Named × List Named → Result (List Named) Cause
onto pair = Ok (pair.0 ∷ pair.1)

-- an operand of each kind, without the blanks around it
abbrev pub each_argument : List OperandKind → List (List ℕ) → Result (List Named) Cause
each_argument [] parts = Ok []
each_argument (kind ∷ kinds) [] = Ok []
each_argument (kind ∷ kinds) (part ∷ parts) = both (argument_of kind (trim part)) (each_argument kinds parts) >>= onto

-- the operands, if they are as many as the kinds
abbrev pub arguments_of : List OperandKind → List (List ℕ) → Result (List Named) Cause
arguments_of kinds parts = if length kinds == length parts then each_argument kinds parts else Err BadOperands

abbrev pub with_form : List (List ℕ) → Option Form → Result (Option (Statement (List ℕ))) Cause
with_form parts None = Err BadWord
with_form parts (Some form) = arguments_of (kinds_of form) parts >>= λ arguments. Ok (Some (record { form = form; arguments = arguments }))

-- what follows the last colon: nothing, or a word of the language with its operands
unfoldable pub statement_of : List ℕ → Result (Option (Statement (List ℕ))) Cause
statement_of [] = Ok None
statement_of (b ∷ bs) = with_form (operands_in (after_first is_blank (b ∷ bs))) (form_of (word_in (b ∷ bs)))

-- ---- the labels of a line

-- each label, with the number of the instruction that follows it
abbrev pub Labels : Type 0
Labels = FinMap (slice_cmp nat_cmp) ℕ

-- a label is a name that was not defined before
abbrev pub label_test : Labels → List ℕ → Result (Unit {0}) Cause
label_test labels name = if is_name name then (if contains_key labels name then Err LabelTwice else Ok tt) else Err BadLabel

abbrev pub second : {A B : Type 0} → A × B → Result B Cause
second pair = Ok pair.1

-- the labels after some more, all of the instruction with this number
abbrev pub labels_after : ℕ → Labels → List (List ℕ) → Result Labels Cause
labels_after number labels [] = Ok labels
labels_after number labels (name ∷ more) = both (label_test labels name) (labels_after number (insert labels name number) more) >>= second

-- ---- lines

-- the contents of the lines so far: the labels, and each statement with its line
pub record ProgramSource : Type 0 where
  pub labels : Labels
  pub statements : List (ℕ × Statement (List ℕ))

-- at most as many instructions as a program may have
abbrev pub with_statement : ℕ → ProgramSource → Option (Statement (List ℕ)) → Labels → Result ProgramSource Cause
with_statement line source None labels = Ok (record { labels = labels; statements = source.statements })
with_statement line source (Some s) labels = if nat_lt (length source.statements) MAX_INSTRS
    then Ok (record { labels = labels; statements = source.statements ++ (line, s) ∷ [] }) else Err Size

-- what one more line adds, or its least cause
unfoldable pub line_of : ℕ → ProgramSource → List ℕ → Result ProgramSource Cause
line_of line source text =
    if list_all is_text text then
    (both (statement_of (instruction_in (pieces text))) (labels_after (length source.statements) source.labels (labels_in (pieces text)))
    >>= λ found. with_statement line source found.0 found.1)
    else Err BadByte

abbrev pub at_line : {A : Type 0} → ℕ → Result A Cause → Result A Fault
at_line line (Ok a) = Ok a
at_line line (Err cause) = Err (record { line = line; cause = cause })

-- the first line with a fault is reported
abbrev pub lines_of : ℕ → ProgramSource → List (List ℕ) → Result ProgramSource Fault
lines_of line source [] = Ok source
lines_of line source (text ∷ texts) = at_line line (line_of line source text) >>= λ next. lines_of (line + 1) next texts

-- ---- resolving labels

-- the number of the instruction that a label names, if one follows it
abbrev pub below : ℕ → Option ℕ → Option ℕ
below count None = None
below count (Some number) = if nat_lt number count then Some number else None

abbrev pub target_in : ProgramSource → List ℕ → Option ℕ
target_in source name = below (length source.statements) (get source.labels name)

abbrev pub as_label : Option ℕ → Option (Argument ℕ)
as_label None = None
as_label (Some number) = Some (label number)

abbrev pub resolved : (List ℕ → Option ℕ) → Named → Option (Argument ℕ)
resolved target (packet p) = Some (packet p)
resolved target (register r) = Some (register r)
resolved target (constant n) = Some (constant n)
resolved target (label name) = as_label (target name)

abbrev pub onto_resolved : Option (Argument ℕ) → Option (List (Argument ℕ)) → Option (List (Argument ℕ))
onto_resolved (Some argument) (Some arguments) = Some (argument ∷ arguments)
onto_resolved (Some argument) None = None
onto_resolved None rest = None

abbrev pub all_resolved : (List ℕ → Option ℕ) → List Named → Option (List (Argument ℕ))
all_resolved target [] = Some []
all_resolved target (argument ∷ arguments) = onto_resolved (resolved target argument) (all_resolved target arguments)

abbrev pub statement_with : ℕ → Form → Option (List (Argument ℕ)) → Result (Statement ℕ) Fault
statement_with line form None = Err (record { line = line; cause = LabelUnknown })
statement_with line form (Some arguments) = Ok (record { form = form; arguments = arguments })

-- the first line that uses an unknown label is reported
abbrev pub all_statements : (List ℕ → Option ℕ) → List (ℕ × Statement (List ℕ)) → Result (List (Statement ℕ)) Fault
all_statements target [] = Ok []
all_statements target (s ∷ more) =
    statement_with s.0 s.1.form (all_resolved target s.1.arguments) >>= λ first.
    all_statements target more >>= λ others. Ok (first ∷ others)

-- a text without instructions is not a program
abbrev pub not_empty : List (Statement ℕ) → Result (List (Statement ℕ)) Fault
not_empty [] = Err (record { line = 0; cause = Size })
not_empty (s ∷ more) = Ok (s ∷ more)

-- ---- the whole text

abbrev pub nothing : ProgramSource
nothing = record { labels = empty; statements = [] }

-- the spelled instructions of a text, or its first fault
unfoldable pub program_of : List ℕ → Result (List (Statement ℕ)) Fault
program_of text =
    lines_of 1 nothing (slice_split is_newline text) >>= λ source.
    all_statements (target_in source) source.statements >>= not_empty

-- the text reads as this program
abbrev pub Reads : List ℕ → List Instr → Type 0
Reads text program = program_of text ≡ Ok (map spelled program)

-- why the text is not a program: its first fault, or lack of memory, which can happen with any text
abbrev pub Fails : List ℕ → AsmError → Type 0
Fails text errors.Memory = Unit {0}
Fails text (errors.Fault fault) = program_of text ≡ Err fault

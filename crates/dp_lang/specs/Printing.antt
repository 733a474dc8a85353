-- The text that is printed for a program.
use Rattle.std.specs.Prelude.{ℕ, ◌+◌, ◌==◌, Bool, false, List, [], ◌∷◌, ◌++◌, map, codes, if◌then◌else◌}
use Rattle.std.specs.List.{list_any, join_with_byte}
use Rattle.std.specs.Option.{option_map_or}
use Rattle.std.specs.Fmt.{decimal}
use Rattle.dp_model.specs.declared.instr.Instr.{Instr}
use Rattle.dp_lang.specs.Arguments.{Argument, packet, register, constant, label}
use Rattle.dp_lang.specs.Forms.{word_of, Statement, spelled}
use Rattle.dp_model.specs.Needs.{label_of}

-- the printed label of an instruction: L and its number
abbrev pub label_name : ℕ → List ℕ
label_name n = codes "L" ++ decimal n

abbrev pub argument_text : Argument ℕ → List ℕ
argument_text (packet p) = codes "p" ++ decimal p
argument_text (register r) = codes "r" ++ decimal r
argument_text (constant n) = decimal n
argument_text (label n) = label_name n

-- a blank, and the operands with commas between them
abbrev pub arguments_text : List (Argument ℕ) → List ℕ
arguments_text [] = []
arguments_text (a ∷ as') = 32 ∷ join_with_byte 44 (map argument_text (a ∷ as'))

abbrev pub statement_text : Statement ℕ → List ℕ
statement_text s = word_of s.form ++ arguments_text s.arguments

-- whether an instruction names the label with this number
abbrev pub names : ℕ → Instr → Bool
names n i = option_map_or (λ l. l == n) (label_of i) false

abbrev pub is_named : List Instr → ℕ → Bool
is_named program n = list_any (names n) program

-- a text, and the newline that ends its line
abbrev pub line : List ℕ → List ℕ
line text = text ++ 10 ∷ []

-- the label and a colon, before an instruction that some instruction names
abbrev pub label_line : List Instr → ℕ → List ℕ
label_line program n = if is_named program n then line (label_name n ++ 58 ∷ []) else []

-- the instructions from a number on
abbrev pub printed_from : List Instr → ℕ → List Instr → List ℕ
printed_from program n [] = []
printed_from program n (i ∷ more) = label_line program n ++ (line (statement_text (spelled i)) ++ printed_from program (n + 1) more)

abbrev pub printed : List Instr → List ℕ
printed program = printed_from program 0 program

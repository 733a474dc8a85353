-- The lines of programs with their counts.
use Rattle.std.specs.Prelude.{ℕ, ◌-◌, ◌^◌, false, List, [], ◌∷◌, ◌++◌, ◌==◌, codes, nat_lt, if◌then◌else◌}
use Rattle.std.specs.Option.{option_map_or}
use Rattle.std.specs.List.{flat_map}
use Rattle.std.specs.Fmt.{decimal, padded_integral, format_spec}
use Rattle.dp_load.specs.Causes.{node_text as node_name}
use Rattle.dp_model.specs.declared.env.Entry.{Entry}
use Rattle.dp_counts.specs.declared.counts.StepCounts.{StepCounts}
use Rattle.dp_counts.specs.declared.source.Role.{Role}
use Rattle.dp_counts.specs.declared.source.Role.TheVariants.{Plain, Frees, Ends}
use Rattle.dp_counts.specs.declared.source.Step.{Step}
use Rattle.dp_counts.specs.declared.source.SourceLine.{SourceLine}
use Rattle.dp_counts.specs.declared.source.NodeSource.{NodeSource}
use Rattle.dp_counts.specs.Counting.{Tally, step_counts}

-- a number at the right of ten columns, as `{:>10}` writes it
abbrev pub column : ℕ → List ℕ
column n = padded_integral (format_spec 32 3 0 10 (2 ^ 64 - 1)) false [] (decimal n)

-- how often it ran, and that packets ended there, if it ever ran
abbrev pub with_word : StepCounts → List ℕ → List ℕ
with_word s word = column s.ran ++ (if nat_lt 0 s.ran then word else codes "            ")

-- the columns of an instruction: how often it ran; and how often its jump was taken, or that packets ended there
abbrev pub columns_of : Role → StepCounts → List ℕ
columns_of Plain s = column s.ran ++ codes "            "
columns_of Frees s = with_word s (codes "     freed  ")
columns_of Ends s = with_word s (codes "     ended  ")
columns_of role s = column s.ran ++ (column s.taken ++ codes "  ")

-- the end of the line, and how many node runs were cut there, if any
abbrev pub cut_text : ℕ → List ℕ
cut_text cut = if cut == 0 then 10 ∷ [] else 10 ∷ column cut ++ (codes "       cut" ++ 10 ∷ [])

abbrev pub step_line : Role → StepCounts → List ℕ → List ℕ
step_line role s text = columns_of role s ++ (text ++ cut_text s.cut)

-- a text after two empty columns
abbrev pub indented : List ℕ → List ℕ
indented text = codes "                      " ++ (text ++ 10 ∷ [])

-- a line without an instruction
abbrev pub other_line : List ℕ → List ℕ
other_line [] = 10 ∷ []
other_line (b ∷ text) = indented (b ∷ text)

abbrev pub line_text : Tally → Entry → SourceLine → List ℕ
line_text t node l = option_map_or (λ (s : Step). step_line s.role (step_counts t node s.label) l.text.now) l.step (other_line l.text.now)

abbrev pub lines_text : Tally → Entry → List SourceLine → List ℕ
lines_text t node lines = flat_map (line_text t node) lines

-- the names of the columns
abbrev pub columns : List ℕ
columns = 10 ∷ codes "       ran     taken" ++ 10 ∷ []

-- the node, its file, and the names of the columns
abbrev pub heading : Entry → List ℕ → List ℕ
heading node name = node_name node ++ (codes " " ++ (name ++ columns))

abbrev pub node_text : Tally → NodeSource → List ℕ
node_text t s = heading s.node s.name.now ++ lines_text t s.node s.lines.items

-- the programs of all nodes
abbrev pub programs_text : Tally → List NodeSource → List ℕ
programs_text t sources = flat_map (node_text t) sources

-- The labels among the operands of an instruction: the one that it names, or none.
use Rattle.std.proofs.Common.{◌≡◌, ℕ, Bool, true, List, [], ◌∷◌, ◌++◌, Option, Some, None, refl, ap, ◌∙◌}
use Rattle.std.specs.Prelude.{◌&&◌, nat_lt}
use Rattle.std.specs.List.{list_all}
use Rattle.std.specs.Option.{option_map_or}
use Rattle.std.proofs.Math.Bool.{and-true}
use Rattle.dp_model.specs.declared.instr.Instr.{Instr}
use Rattle.dp_model.specs.declared.instr.Instr.TheVariants as instr
use Rattle.dp_model.specs.declared.registers.Operand.{Operand}
use Rattle.dp_model.specs.declared.registers.Operand.TheVariants as operand
use Rattle.dp_model.specs.Needs.{label_of}
use Rattle.dp_lang.specs.Arguments.{Argument, packet, register, constant, label}
use Rattle.dp_lang.specs.Forms.{spelled, either}
use Rattle.dp_lang.specs.Programs.{leads_below}

-- the label that an operand is, or none
abbrev pub if_label : Argument ℕ → List ℕ
if_label (label l) = l ∷ []
if_label a = []

-- the labels among operands
abbrev pub labels : List (Argument ℕ) → List ℕ
labels [] = []
labels (a ∷ more) = if_label a ++ labels more

-- a label, where there is one
abbrev pub if_any : Option ℕ → List ℕ
if_any None = []
if_any (Some l) = l ∷ []

either_none : (x : Operand) → if_label (either x) ≡ []
either_none (operand.Register r) = refl
either_none (operand.Constant c) = refl

-- the label of an instruction is the one among its operands: by computation, except for `either`, so no instruction has a case
pub own_label : (i : Instr) → labels (spelled i).arguments ≡ if_any (label_of i)
own_label instr.Exit = refl
own_label _ = first_of (cc, simp either_none)

-- ---- the instructions that labels name

-- whether an operand is no label, or one below n
abbrev pub is_below : ℕ → Argument ℕ → Bool
is_below count (packet p) = true
is_below count (register r) = true
is_below count (constant n) = true
is_below count (label l) = nat_lt l count

labels_below : (count : ℕ) (as' : List (Argument ℕ)) → list_all (is_below count) as' ≡ list_all (λ l. nat_lt l count) (labels as')
labels_below count [] = refl
labels_below count (packet p ∷ as') = labels_below count as'
labels_below count (register r ∷ as') = labels_below count as'
labels_below count (constant n ∷ as') = labels_below count as'
labels_below count (label l ∷ as') = ap (λ b. nat_lt l count && b) (labels_below count as')

one_below : (count : ℕ) (o : Option ℕ) → list_all (λ l. nat_lt l count) (if_any o) ≡ option_map_or (λ to. nat_lt to count) o true
one_below count None = refl
one_below count (Some l) = and-true (nat_lt l count)

-- no operand of an instruction is a label but its own
pub operands_below : (count : ℕ) (i : Instr) → list_all (is_below count) (spelled i).arguments ≡ leads_below count i
operands_below count i = labels_below count (spelled i).arguments ∙ ap (list_all (λ l. nat_lt l count)) (own_label i) ∙ one_below count (label_of i)

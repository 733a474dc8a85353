-- Internal, no public contract names it: the fields of an instruction, read from the operands of a text, whatever these are. An operand of another
-- kind counts as 0; if the operands are of the form's kinds, the instruction has them.
use Rattle.std.specs.Prelude.{ℕ, suc, ◌==◌, nat_lt, List, [], ◌∷◌, Option, Some, slice_index_or, if◌then◌else◌}
use Rattle.dp_model.specs.Arithmetic.{bytes_in}
use Rattle.dp_model.specs.declared.registers.Operand.{Operand}
use Rattle.dp_model.specs.declared.registers.Operand.TheVariants as operand
use Rattle.dp_model.specs.declared.registers.Width.{Width}
use Rattle.dp_model.specs.declared.registers.Width.TheVariants.{One, Two, Four, Eight}
use Rattle.dp_lang.specs.Arguments.{Argument, packet, register, constant, label}
use Rattle.dp_lang.specs.declared.argument.Named.{Named}
use Rattle.dp_lang.specs.declared.argument.Named.TheVariants.{Packet, Register, Constant, Name}
use Rattle.dp_lang.specs.declared.form.Form.{Form}
use Rattle.dp_lang.specs.declared.form.OperandKind.{OperandKind}
use Rattle.dp_lang.specs.declared.form.OperandKind.TheVariants as kinds
use Rattle.dp_lang.specs.declared.form.TheConstants.{MAX_COUNT}
use Rattle.dp_lang.specs.Forms.{Statement, kinds_of, either}

-- a number below a limit, or 0
abbrev pub less : ℕ → ℕ → ℕ
less limit n = if nat_lt n limit then n else 0

abbrev pub packet_in : Named → ℕ
packet_in (Packet p) = less 8 p
packet_in _ = 0

abbrev pub register_in : Named → ℕ
register_in (Register r) = less 8 r
register_in _ = 0

abbrev pub number_in : Named → ℕ
number_in (Constant n) = n
number_in _ = 0

abbrev pub byte_in : Named → ℕ
byte_in a = less 256 (number_in a)

abbrev pub count_in : Named → ℕ
count_in a = less (suc MAX_COUNT) (number_in a)

abbrev pub width_of : ℕ → Width
width_of n = if n == 1 then One else (if n == 2 then Two else (if n == 4 then Four else Eight))

abbrev pub width_in : Named → Width
width_in a = width_of (number_in a)

abbrev pub operand_in : Named → Operand
operand_in (Register r) = operand.Register (less 8 r)
operand_in a = operand.Constant (number_in a)

-- ---- the operands of a statement

abbrev pub none : Named
none = Constant 0

-- the label that an operand names; 0 if none does
abbrev pub label_in : (List ℕ → Option ℕ) → List Named → Option ℕ
label_in target [] = Some 0
label_in target (Name name ∷ more) = target name.now
label_in target (a ∷ more) = label_in target more

-- a number in the smallest field that has its range
abbrev pub fitted : ℕ → ℕ → ℕ
fitted most n = if nat_lt most 256 then less 256 n else (if nat_lt most 65536 then less 65536 n else n)

-- a field as an operand again, with this number for a label
abbrev pub fielded : ℕ → OperandKind → Named → Argument ℕ
fielded l kinds.Packet a = packet (packet_in a)
fielded l kinds.Register a = register (register_in a)
fielded l (kinds.Number least most) a = constant (fitted most (number_in a))
fielded l kinds.Width a = constant (bytes_in (width_in a))
fielded l kinds.RegisterOrConstant a = either (operand_in a)
fielded l kinds.Label a = label l

-- the same of each of these kinds
abbrev pub all_fielded : ℕ → List OperandKind → (ℕ → Named) → List (Argument ℕ)
all_fielded l [] given = []
all_fielded l (k ∷ ks) given = fielded l k (given 0) ∷ all_fielded l ks (λ n. given (suc n))

-- what the instruction of a form spells
abbrev pub fielded_statement : Form → List Named → ℕ → Statement ℕ
fielded_statement form given l = record { form = form; arguments = all_fielded l (kinds_of form) (λ n. slice_index_or given n none) }

-- The values of the assembler and the printer, as contracts see them.
use Rattle.std.specs.Prelude.{◌≡◌, ℕ, List, [], ◌∷◌, map, Option, Some, None, Result, Ok, Err}
use Rattle.dp_model.specs.Arithmetic.{bytes_in}
use Rattle.dp_model.specs.Needs.{label_of}
use Rattle.dp_model.specs.Rules.{uses}
use Rattle.dp_model.specs.declared.instr.Instr.{Instr}
use Rattle.dp_lang.specs.Arguments.{Argument, packet, register, constant, label}
use Rattle.dp_lang.specs.declared.argument.Arguments.{Arguments}
use Rattle.dp_lang.specs.declared.argument.Arguments.TheVariants.{Zero, One, Two, Three, Four, Five}
use Rattle.dp_lang.specs.declared.argument.Named.{Named}
use Rattle.dp_lang.specs.declared.argument.Named.TheVariants as text
use Rattle.dp_lang.specs.declared.argument.Numbered.{Numbered}
use Rattle.dp_lang.specs.declared.argument.Numbered.TheVariants as program
use Rattle.dp_lang.specs.declared.argument.Shown.{Shown}
use Rattle.dp_lang.specs.declared.argument.Shown.TheVariants as shown
use Rattle.dp_lang.specs.declared.cause.Fault.{Fault}
use Rattle.dp_lang.specs.declared.cause.AsmError.{AsmError}
use Rattle.dp_lang.specs.declared.cause.AsmError.TheVariants as errors
use Rattle.dp_lang.specs.Forms.{either, spelled}

abbrev pub argument : Named → Argument (List ℕ)
argument (text.Packet p) = packet p
argument (text.Register r) = register r
argument (text.Constant n) = constant n
argument (text.Name name) = label name.now

abbrev pub numbered : Numbered → Argument ℕ
numbered (program.Target p) = packet p
numbered (program.Packet p) = packet p
numbered (program.Register r) = register r
numbered (program.Small n) = constant n
numbered (program.Count n) = constant n
numbered (program.Constant n) = constant n
numbered (program.Width w) = constant (bytes_in w)
numbered (program.RegisterOrConstant x) = either x
numbered (program.Label n) = label n

abbrev pub shown_in : Shown → Argument ℕ
shown_in (shown.Packet p) = packet p
shown_in (shown.Register r) = register r
shown_in (shown.Number n) = constant n
shown_in (shown.Label n) = label n

-- the operands of an instruction
abbrev pub listed : Arguments → List Numbered
listed Zero = []
listed (One arguments) = arguments
listed (Two arguments) = arguments
listed (Three arguments) = arguments
listed (Four arguments) = arguments
listed (Five arguments) = arguments

-- the packet registers that an instruction uses, without one that it fills
abbrev pub used_in : List Numbered → List ℕ
used_in [] = []
used_in (program.Packet p ∷ more) = p ∷ used_in more
used_in (argument ∷ more) = used_in more

-- the first label
abbrev pub label_in : List Numbered → Option ℕ
label_in [] = None
label_in (program.Label n ∷ more) = Some n
label_in (argument ∷ more) = label_in more

-- the operands of an instruction, those that it uses, and the one that it jumps to
pub record Seen : Type 0 where
  pub arguments : List (Argument ℕ)
  pub used : List ℕ
  pub label : Option ℕ

abbrev pub seen_in : List Numbered → Seen
seen_in arguments = record { arguments = map numbered arguments; used = used_in arguments; label = label_in arguments }

abbrev pub seen_of : Instr → Seen
seen_of i = record { arguments = (spelled i).arguments; used = uses i; label = label_of i }

-- the code returns what the definition does
abbrev pub Shows : {X Y E : Type 0} → (X → Y) → Result X E → Result Y E → Type 0
Shows view (Ok x) read = read ≡ Ok (view x)
Shows view (Err cause) read = read ≡ Err cause

-- the same, or lack of memory
abbrev pub FailsAs : {Y : Type 0} → AsmError → Result Y Fault → Type 0
FailsAs errors.Memory read = Unit {0}
FailsAs (errors.Fault f) read = read ≡ Err f

abbrev pub Gives : {X Y : Type 0} → (X → Y) → Result X AsmError → Result Y Fault → Type 0
Gives view (Ok x) read = read ≡ Ok (view x)
Gives view (Err e) read = FailsAs e read

-- What an inferrer promises.
use Rattle.std.specs.Prelude.{◌≡◌, ℕ, true, ◌⊎◌, List, length, Some, IsTrue, slice_get}
use Rattle.std.specs.List.{list_all}
use Rattle.dp_model.specs.declared.row.Row.{Row}
use Rattle.dp_model.specs.declared.env.Entry.{Entry}
use Rattle.dp_model.specs.declared.instr.Instr.{Instr}
use Rattle.dp_model.specs.Environments.{Environment}
use Rattle.dp_model.specs.Jumps.{IsForward}
use Rattle.dp_model.specs.Rows.{entails, is_well_formed_row}
use Rattle.dp_model.specs.Rules.{IsAccepted, row_passes}
use Rattle.dp_cert.specs.Spelling.{certificate_of}
use Rattle.dp_check.specs.Faults.{question, IsRefusedWith}
use Rattle.dp_infer.specs.declared.inferring.InferError.{InferError}
use Rattle.dp_infer.specs.declared.inferring.InferError.TheVariants.{Memory, NoCert}

-- the program is accepted with a certificate of these rows
abbrev pub Certifies : List Instr → Environment → Entry → List Row → Type 0
Certifies program env entry rows = IsTrue (list_all is_well_formed_row rows) × IsAccepted (question program (certificate_of rows) env entry)

-- each live row says all that the same row of any accepted certificate does, if the program is forward
abbrev pub SaysMost : List Instr → Environment → Entry → List Row → Type 0
SaysMost program env entry found = IsForward program → (rows : List Row) → Certifies program env entry rows
    → (label : ℕ) (row : Row) → slice_get found label ≡ Some row → row.live ≡ true → row_passes rows label (entails row) ≡ true

-- a forward program is accepted with no certificate
abbrev pub HasNone : List Instr → Environment → Entry → Type 0
HasNone program env entry = IsForward program → (rows : List Row) → ¬ Certifies program env entry rows

-- Rows of a certificate, one for each instruction, with which the program is refused: at the lowest failing label, by its first failing rule.
pub record AreRefused (program : List Instr) (env : Environment) (entry : Entry) (rows : List Row) (label rule : ℕ) : Type 0 where
  pub long : length rows ≡ length program
  pub well_formed : IsTrue (list_all is_well_formed_row rows)
  pub refused : IsRefusedWith (question program (certificate_of rows) env entry) label rule

-- rows of a certificate with which the program is accepted or refused
abbrev pub AreTried : List Instr → Environment → Entry → List Row → Type 0
AreTried program env entry rows = Certifies program env entry rows ⊎ ((label : ℕ) × (rule : ℕ) × AreRefused program env entry rows label rule)

-- No certificate is found: a forward program has none, and with one that was tried the program is refused at the label by the rule of this number.
pub record IsNotInferred (program : List Instr) (env : Environment) (entry : Entry) (label rule : ℕ) : Type 0 where
  pub none : HasNone program env entry
  pub rows : List Row
  pub tried : AreRefused program env entry rows label rule

-- why there is no certificate: memory, or none is found
abbrev pub IsWithout : List Instr → Environment → Entry → InferError → Type 0
IsWithout program env entry Memory = Unit {0}
IsWithout program env entry (NoCert label rule) = IsNotInferred program env entry label rule

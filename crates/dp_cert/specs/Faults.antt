-- Faults of texts that are not certificates.
use Rattle.std.specs.Prelude.{◌≡◌, ◌≢◌, ℕ, ◌+◌, ◌<◌, ◌⊎◌, true, false, List, ◌++◌, length, take, nat_eq}
use Rattle.std.specs.List.{AllByRecursion, starts_with}
use Rattle.dp_model.specs.declared.row.Row.{Row}
use Rattle.dp_cert.specs.declared.cert.Version.{Version}
use Rattle.dp_cert.specs.declared.error.Cause.{Cause}
use Rattle.dp_cert.specs.declared.error.Cause.TheVariants.{BadHead, BadLine, BadRow, BadCount}
use Rattle.dp_cert.specs.declared.error.Fault.{Fault}
use Rattle.dp_cert.specs.declared.error.CertError.{CertError}
use Rattle.dp_cert.specs.declared.error.CertError.TheVariants as errors
use Rattle.dp_cert.specs.Spelling.{Certificate, IsRow, is_row_of, head_line, row_line, spelling, is_line}

-- the number of a cause
abbrev pub number_of : Cause → ℕ
number_of BadHead = 1
number_of BadLine = 2
number_of BadRow = 3
number_of BadCount = 4

-- What is wrong after these rows of n are read and these bytes remain: the next line is not 306 digits, or is not a row, or is missing, or is one
-- too many.
abbrev pub IsWrong : Version → ℕ → List Row → List ℕ → Cause → Type 0
IsWrong version n rows rest BadHead = ⊥
IsWrong version n rows rest BadLine = (length rows < n) × (0 < length rest) × (is_line (take 307 rest) ≡ false)
IsWrong version n rows rest BadRow =
    (length rows < n) × (is_line (take 307 rest) ≡ true) × ((row : Row) → IsRow version row → take 307 rest ≢ row_line row)
IsWrong version n rows rest BadCount = ((length rows < n) × (length rest ≡ 0)) ⊎ ((length rows ≡ n) × (0 < length rest))

-- the first line is not that of any version
pub record HasBadHead (text : List ℕ) (fault : Fault) : Type 0 where
  pub is : fault ≡ record { line = 1; cause = BadHead }
  pub other : (version : Version) → starts_with nat_eq text (head_line version) ≡ false

-- the first line has a version, these rows follow, and then something is wrong
pub record HasBadLine (n : ℕ) (text : List ℕ) (fault : Fault) : Type 0 where
  pub cert : Certificate
  pub rest : List ℕ
  pub read : text ≡ spelling cert ++ rest
  pub well_formed : AllByRecursion (λ row. is_row_of cert.version row ≡ true) cert.rows
  pub line : fault.line ≡ length cert.rows + 2
  pub wrong : IsWrong cert.version n cert.rows rest fault.cause

-- the first fault of a text that should have n rows
abbrev pub HasFault : ℕ → List ℕ → Fault → Type 0
HasFault n text fault = HasBadHead text fault ⊎ HasBadLine n text fault

-- why a text that should have n rows is not read: memory, or its first fault
abbrev pub IsFaultOf : ℕ → List ℕ → CertError → Type 0
IsFaultOf n text errors.Memory = Unit {0}
IsFaultOf n text (errors.Fault fault) = HasFault n text fault

-- Reading line by line up to the first fault.
use Rattle.std.specs.Prelude.{◌≡◌, ℕ, zero, suc, ◌+◌, ◌&&◌, ◌==◌, nat_eq, List, [], ◌∷◌, take, drop, slice_index, Result, Ok, Err, if◌then◌else◌}
use Rattle.std.specs.List.{starts_with}
use Rattle.std.specs.Int.{w16, w64, from_be_bytes}
use Rattle.std.specs.Str.{bytes_eq}
use Rattle.hex.specs.Hex.{decode_sized}
use Rattle.hex.specs.declared.error.FromHexError.{FromHexError}
use Rattle.dp_model.specs.declared.row.Fact.{Fact}
use Rattle.dp_model.specs.declared.row.Fact.TheVariants.{Empty, Held}
use Rattle.dp_model.specs.declared.row.Row.{Row}
use Rattle.std.specs.Option.{option_map_or}
use Rattle.std.specs.Prelude.{Option, Some, None}
use Rattle.dp_cert.specs.declared.cert.Version.{Version}
use Rattle.dp_cert.specs.declared.cert.Version.TheVariants.{One, Two}
use Rattle.dp_cert.specs.declared.error.Cause.{Cause}
use Rattle.dp_cert.specs.declared.error.Cause.TheVariants.{BadHead, BadLine, BadRow, BadCount}
use Rattle.dp_cert.specs.declared.error.Fault.{Fault}
use Rattle.dp_cert.specs.declared.error.CertError.{CertError}
use Rattle.dp_cert.specs.declared.error.CertError.TheVariants as errors
pub use Rattle.dp_cert.specs.Spelling.{is_digit, digits_in, is_line}
use Rattle.dp_cert.specs.Spelling.{Certificate, head_line, is_row_of, row_line}

-- ---- the row in some bytes, if they spell one

unfoldable pub fact_in : List ℕ → Fact
fact_in bytes =
    if slice_index bytes 0 == 0 then Empty
    else Held
    (slice_index bytes 1)
    (from_be_bytes w16 (take 2 (drop 2 bytes)))
    (from_be_bytes w16 (take 2 (drop 4 bytes)))
    (from_be_bytes w16 (take 2 (drop 6 bytes)))
    (from_be_bytes w16 (take 2 (drop 8 bytes)))
    (slice_index bytes 10)

-- n parts of this width, from the front
unfoldable pub parts_in : {A : Type 0} → (List ℕ → A) → ℕ → ℕ → List ℕ → List A
parts_in part width zero bytes = []
parts_in part width (suc n) bytes = part (take width bytes) ∷ parts_in part width n (drop width bytes)

unfoldable pub facts_in : List ℕ → List Fact
facts_in bytes = parts_in fact_in 11 8 bytes

unfoldable pub bound_in : List ℕ → ℕ
bound_in bytes = from_be_bytes w64 bytes

unfoldable pub bounds_in : List ℕ → List ℕ
bounds_in bytes = parts_in bound_in 8 8 bytes

unfoldable pub row_in : List ℕ → Row
row_in bytes = record { live = slice_index bytes 0 == 1; facts = facts_in (drop 1 bytes); bounds = bounds_in (drop 89 bytes) }

-- ---- lines

-- the line spells a row that a certificate of the version may have
abbrev pub spelled_row : Version → List ℕ → Row → Result Row Cause
spelled_row version line row = if bytes_eq (row_line row) line && is_row_of version row then Ok row else Err BadRow

abbrev pub of_bytes : Version → List ℕ → Result (List ℕ) FromHexError → Result Row Cause
of_bytes version line (Ok bytes) = spelled_row version line (row_in bytes)
of_bytes version line (Err e) = Err BadLine

unfoldable pub row_of : Version → List ℕ → Result Row Cause
row_of version line = if is_line line then of_bytes version line (decode_sized (digits_in line) 153) else Err BadLine

infixl 10 ◌>>=◌
abbrev pub ◌>>=◌ : {A B E : Type 0} → Result A E → (A → Result B E) → Result B E
(Ok x) >>= f = f x
(Err e) >>= f = Err e

abbrev pub at_line : {A : Type 0} → ℕ → Result A Cause → Result A Fault
at_line line (Ok a) = Ok a
at_line line (Err cause) = Err (record { line = line; cause = cause })

abbrev pub onto : Row → List Row → Result (List Row) Fault
onto row rows = Ok (row ∷ rows)

-- n rows from a line on, and nothing after them
unfoldable pub rows_of : Version → ℕ → ℕ → List ℕ → Result (List Row) Fault
rows_of version line zero [] = Ok []
rows_of version line zero (b ∷ bytes) = Err (record { line = line; cause = BadCount })
rows_of version line (suc n) [] = Err (record { line = line; cause = BadCount })
rows_of version line (suc n) (b ∷ bytes) =
    at_line line (row_of version (take 307 (b ∷ bytes))) >>= λ row. rows_of version (line + 1) n (drop 307 (b ∷ bytes)) >>= onto row

-- the version in the first line
abbrev pub version_in : List ℕ → Option Version
version_in text =
    if starts_with nat_eq text (head_line One) then Some One else
    if starts_with nat_eq text (head_line Two) then Some Two else None

-- a certificate of the version with these rows
abbrev pub certified : Version → Result (List Row) Fault → Result Certificate Fault
certified version read = read >>= λ rows. Ok (record { version = version; rows = rows })

unfoldable pub cert_of : ℕ → List ℕ → Result Certificate Fault
cert_of n text =
    option_map_or (λ version. certified version (rows_of version 2 n (drop 11 text))) (version_in text) (Err (record { line = 1; cause = BadHead }))

-- The code returns what the definition does, or memory runs out.
abbrev pub Fails : {Y : Type 0} → CertError → Result Y Fault → Type 0
Fails errors.Memory read = Unit {0}
Fails (errors.Fault f) read = read ≡ Err f

abbrev pub Gives : {X Y : Type 0} → (X → Y) → Result X CertError → Result Y Fault → Type 0
Gives view (Ok x) read = read ≡ Ok (view x)
Gives view (Err e) read = Fails e read

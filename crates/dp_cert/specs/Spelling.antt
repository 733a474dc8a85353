-- The one spelling of each certificate.
use Rattle.std.specs.Prelude.{◌≡◌, ℕ, ◌-◌, ◌<◌, ◌^◌, ◌&&◌, ◌||◌, ◌==◌, nat_le, not, if◌then◌else◌, Bool, true, List, [], ◌∷◌, ◌++◌, length, take, slice_index}
use Rattle.std.specs.Prelude.{cond, codes, replicate}
use Rattle.std.specs.List.{flat_map, list_all, list_any, AllByRecursion}
use Rattle.std.specs.Int.{w16, w64, to_be_bytes}
use Rattle.hex.specs.Hex.{encode_lower}
use Rattle.dp_model.specs.declared.row.Fact.{Fact}
use Rattle.dp_model.specs.declared.row.Fact.TheVariants.{Empty, Held}
use Rattle.dp_model.specs.declared.row.Row.{Row}
use Rattle.dp_model.specs.Rows.{is_well_formed_row, have_groups}
use Rattle.dp_cert.specs.declared.cert.Version.{Version}
use Rattle.dp_cert.specs.declared.cert.Version.TheVariants.{One, Two}

-- eleven bytes: 1, share, head, tail, first, last and segs of a packet, or zeros for none
abbrev pub fact_bytes : Fact → List ℕ
fact_bytes Empty = replicate 11 0
fact_bytes (Held share head tail first last segs) =
    1 ∷ share ∷ to_be_bytes w16 head ++ to_be_bytes w16 tail ++ to_be_bytes w16 first ++ to_be_bytes w16 last ++ segs ∷ []

-- 153 bytes: 1 or 0 for live or dead, the facts of the packet registers, the bounds of the number registers
abbrev pub row_bytes : Row → List ℕ
row_bytes row = cond row.live 1 0 ∷ flat_map fact_bytes row.facts ++ flat_map (to_be_bytes w64) row.bounds

-- a certificate: its version and its rows
pub record Certificate : Type 0 where
  pub version : Version
  pub rows : List Row

-- the first line
abbrev pub head_line : Version → List ℕ
head_line One = codes "dpv-cert 1\n"
head_line Two = codes "dpv-cert 2\n"

-- the number of a version
abbrev pub number_of_version : Version → ℕ
number_of_version One = 1
number_of_version Two = 2

-- whether a certificate of the version may have the row: one of version 1 has no groups
abbrev pub is_row_of : Version → Row → Bool
is_row_of One row = is_well_formed_row row && not (have_groups row.facts)
is_row_of Two row = is_well_formed_row row

-- the version for rows: 1 exactly if none has a group
abbrev pub version_for : List Row → Version
version_for rows = if list_any (λ row. have_groups row.facts) rows then Two else One

-- the certificate of rows, in their version
abbrev pub certificate_of : List Row → Certificate
certificate_of rows = record { version = version_for rows; rows = rows }

-- the certificate of version 2 with the same rows
abbrev pub raised : Certificate → Certificate
raised cert = record cert { version = Two }

-- the line of a row
abbrev pub row_line : Row → List ℕ
row_line row = encode_lower (row_bytes row) ++ 10 ∷ []

-- the text of a certificate
abbrev pub spelling : Certificate → List ℕ
spelling cert = head_line cert.version ++ flat_map row_line cert.rows

-- the bytes spell this certificate, with n rows that its version may have
pub record CertText (n : ℕ) (bytes : List ℕ) (cert : Certificate) : Type 0 where
  pub text : bytes ≡ spelling cert
  pub count : length cert.rows ≡ n
  pub well_formed : AllByRecursion (λ row. is_row_of cert.version row ≡ true) cert.rows

-- what the fields of a fact can hold
abbrev pub FactInRange : Fact → Type 0
FactInRange Empty = Unit {0}
FactInRange (Held share head tail first last segs) =
    (share < 2 ^ 8) × (head < 2 ^ 16) × (tail < 2 ^ 16) × (first < 2 ^ 16) × (last < 2 ^ 16) × (segs < 2 ^ 8)

-- a row within the ranges of its fields that a certificate of the version may have
pub record IsRow (version : Version) (row : Row) : Type 0 where
  pub eight_facts : length row.facts ≡ 8
  pub eight_bounds : length row.bounds ≡ 8
  pub facts : AllByRecursion FactInRange row.facts
  pub bounds : AllByRecursion (λ n. n < 2 ^ 64) row.bounds
  pub well_formed : is_row_of version row ≡ true

-- a certificate within the ranges of its fields
abbrev pub IsCertificate : Certificate → Type 0
IsCertificate cert = AllByRecursion (IsRow cert.version) cert.rows

-- ---- lines

-- whether a byte is a digit from 0 to 9 or from a to f
abbrev pub is_digit : ℕ → Bool
is_digit c = (nat_le 48 c && nat_le c 57) || (nat_le 97 c && nat_le c 102)

-- all bytes but the last
abbrev pub digits_in : List ℕ → List ℕ
digits_in line = take (length line - 1) line

-- a line of 306 digits and a newline
abbrev pub is_line : List ℕ → Bool
is_line line = (length line == 307) && list_all is_digit (digits_in line) && (slice_index line (length line - 1) == 10)

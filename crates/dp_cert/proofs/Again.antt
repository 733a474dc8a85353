-- What is spelled is read back.
use Rattle.std.proofs.Common.{◌≡◌, ℕ, ◌+◌, ◌-◌, ◌*◌, ◌/◌, ◌%◌, ◌<◌, Bool, true, false, eqb, List, [], ◌∷◌, ◌++◌, length, take, drop, get_or, Ok, refl, ap}
use Rattle.std.proofs.Common.{◌∙◌, eq-eqb, arith}
use Rattle.std.specs.List.{flat_map, AllByRecursion, list_all}
use Rattle.std.specs.Str.{bytes_eq}
use Rattle.std.proofs.lemmas.List.{take_at, drop_at, length-append, get_or-append_right}
use Rattle.std.proofs.lemmas.List.Folds.{list_all_at}
use Rattle.std.proofs.lemmas.Slice.Eq.{bytes_eq-Decides}
use Rattle.hex.specs.Hex.{encode_with, encode_lower, lower_digits, decode_sized}
use Rattle.hex.proofs.HexLemmas.{length-encode_with, decode_sized-encode_lower}
use Rattle.dp_model.specs.declared.row.Row.{Row}
use Rattle.dp_cert.specs.Spelling.{Certificate, row_bytes, head_line, row_line, spelling, IsRow, IsCertificate}
use Rattle.dp_cert.specs.declared.cert.Version.{Version}
use Rattle.dp_cert.specs.declared.cert.Version.TheVariants.{One, Two}
use Rattle.dp_cert.specs.Reading.{is_digit, digits_in, is_line, row_of, rows_of, certified, cert_of}
use Rattle.dp_cert.proofs.Loop.{one_row}
use Rattle.dp_cert.proofs.RowBytes.{Low, IsBytes-from, length-row, Low-row, row_again}

digit_good : (d : ℕ) → d < 16 → is_digit (get_or lower_digits d 0) ≡ true
digit_good d lt = go (is_digit (get_or lower_digits d 0)) refl
  where
    go : (b : Bool) → is_digit (get_or lower_digits d 0) ≡ b → b ≡ true
    go true e = refl
    go false e = let no : list_all is_digit lower_digits ≡ false = list_all_at is_digit lower_digits d 0 lt e in absurd cc

digits_good : (bytes : List ℕ) → Low bytes → list_all is_digit (encode_with lower_digits bytes) ≡ true
unfolding encode_with
digits_good [] h = refl
digits_good (b ∷ bytes) h =
    let low : b < 256 = h.0 in
    rw (digit_good (b / 16) (omega arith), digit_good (b % 16) (omega arith), digits_good bytes h.1) refl

module _ (version : Version) where
  pub line_again : (row : Row) → IsRow version row → row_of version (row_line row) ≡ Ok row
  unfolding row_of
  line_again row fits =
      let bytes = row_bytes row in
      let digits = encode_lower bytes in
      let line = row_line row in
      let size : length digits ≡ 306 = omega (arith, length-encode_with lower_digits bytes, length-row row fits) in
      let size2 : length line ≡ 307 = omega (arith, size, length-append digits (10 ∷ [])) in
      let inner : digits_in line ≡ digits = take_at digits (10 ∷ []) (length line - 1) (omega (arith, size, size2)) in
      let t1 : eqb (length line) 307 ≡ true = eq-eqb (length line) 307 size2 in
      let t2 : list_all is_digit (digits_in line) ≡ true = rw inner (digits_good bytes (Low-row row fits)) in
      let here : length line - 1 - 306 ≡ 0 = omega (arith, size2) in
      let last : get_or line (length line - 1) 0 ≡ 10 = get_or-append_right digits (10 ∷ []) 306 (length line - 1) 0 size (omega (arith, size2))
      ∙ ap (λ (k : ℕ). get_or (10 ∷ []) k 0) here in
      let t3 : eqb (get_or line (length line - 1) 0) 10 ≡ true = eq-eqb (get_or line (length line - 1) 0) 10 last in
      let good : is_line line ≡ true = rw (t1, t2, t3) refl in
      let read : decode_sized (digits_in line) 153 ≡ Ok bytes = rw inner
      (decode_sized-encode_lower bytes 153 (length-row row fits) (IsBytes-from bytes (Low-row row fits))) in
      let same : bytes_eq line line ≡ true = (bytes_eq-Decides line line).1 refl in
      rw (good, read, row_again row fits, same, fits.well_formed) refl

  rows_again : (line : ℕ) (rows : List Row) → AllByRecursion (IsRow version) rows → rows_of version line (length rows) (flat_map row_line rows) ≡ Ok rows
  unfolding rows_of
  rows_again line [] h = refl
  rows_again line (row ∷ rows) h =
      let rest = flat_map row_line rows in
      let size : length (row_line row) ≡ 307 = omega (
        arith,
        length-encode_with lower_digits (row_bytes row),
        length-row row h.0,
        length-append (encode_lower (row_bytes row)) (10 ∷ []),
      ) in
      let front : take 307 (row_line row ++ rest) ≡ row_line row = take_at (row_line row) rest 307 size in
      let back : drop 307 (row_line row ++ rest) ≡ rest = drop_at (row_line row) rest 307 size in
      one_row version line (length rows) (row_line row ++ rest) (Ok row) (omega (arith, size, length-append (row_line row) rest))
      (rw front (line_again row h.0))
      ∙ rw (back, rows_again (line + 1) rows h.1) refl

parts_again : (version : Version) (rows : List Row) → AllByRecursion (IsRow version) rows →
    cert_of (length rows) (head_line version ++ flat_map row_line rows) ≡ Ok (record { version = version; rows = rows })
unfolding cert_of
parts_again One rows h = ap (certified One) (rows_again One 2 rows h)
parts_again Two rows h = ap (certified Two) (rows_again Two 2 rows h)

pub cert_again : (cert : Certificate) → IsCertificate cert → cert_of (length cert.rows) (spelling cert) ≡ Ok cert
cert_again cert h = parts_again cert.version cert.rows h

-- ---- one spelling

length-line : {version : Version} (row : Row) → IsRow version row → length (row_line row) ≡ 307
length-line row fits = omega (
  arith,
  length-encode_with lower_digits (row_bytes row),
  length-row row fits,
  length-append (encode_lower (row_bytes row)) (10 ∷ []),
)

length-lines : (version : Version) (rows : List Row) → AllByRecursion (IsRow version) rows → length (flat_map row_line rows) ≡ 307 * length rows
length-lines version [] h = omega arith
length-lines version (row ∷ rows) h =
    let one = length-line row h.0 in
    let rest = length-lines version rows h.1 in
    omega (arith, one, rest, length-append (row_line row) (flat_map row_line rows))

length-head : (version : Version) → length (head_line version) ≡ 11
length-head One = refl
length-head Two = refl

pub length-spelling : (cert : Certificate) → IsCertificate cert → length (spelling cert) ≡ 11 + 307 * length cert.rows
length-spelling cert h = omega (
  arith,
  length-lines cert.version cert.rows h,
  length-head cert.version,
  length-append (head_line cert.version) (flat_map row_line cert.rows),
)

pub one_spelling : (cert cert' : Certificate) → IsCertificate cert → IsCertificate cert' → spelling cert ≡ spelling cert' → cert ≡ cert'
one_spelling cert cert' h h' e =
    let long : length (spelling cert) ≡ length (spelling cert') = ap length e in
    let same : length cert.rows ≡ length cert'.rows = omega (arith, long, length-spelling cert h, length-spelling cert' h') in
    let first : cert_of (length cert.rows) (spelling cert) ≡ Ok cert = cert_again cert h in
    let second : cert_of (length cert.rows) (spelling cert) ≡ Ok cert' = rw (e, same) (cert_again cert' h') in
    cc (first, second)

-- What is wrong with a line.
use Rattle.std.proofs.Common.{◌≡◌, ◌≢◌, ℕ, ◌-◌, ◌*◌, ◌<◌, ◌&&◌, ◌||◌, Bool, true, false, cond, eqb, get_or, Some, None, List, [], ◌∷◌, length, take, Result}
use Rattle.std.proofs.Common.{Ok, Err, refl, sym, subst, arith}
use Rattle.std.specs.Prelude.{IsOk, is_some, nat_le}
use Rattle.std.specs.List.{list_all}
use Rattle.std.specs.Str.{bytes_eq}
use Rattle.std.proofs.lemmas.List.{length-take}
use Rattle.std.proofs.lemmas.List.Sums.{AllPass-from_list_all}
use Rattle.std.proofs.lemmas.Bool.Decides.{Decides-eqb}
use Rattle.std.proofs.lemmas.Bool.{and_parts}
use Rattle.hex.specs.Hex.{decode_sized, is_hex_digit}
use Rattle.hex.specs.declared.error.FromHexError.{FromHexError}
use Rattle.hex.proofs.HexLemmas.{IsOk-decode_sized}
use Rattle.dp_model.specs.declared.row.Row.{Row}
use Rattle.dp_cert.specs.declared.cert.Version.{Version}
use Rattle.dp_cert.specs.declared.error.Cause.{Cause}
use Rattle.dp_cert.specs.declared.error.Cause.TheVariants.{BadHead, BadLine, BadRow, BadCount}
use Rattle.dp_cert.specs.Spelling.{IsRow, is_row_of, row_line, is_digit, digits_in, is_line}
use Rattle.dp_cert.specs.Faults.{IsWrong}
use Rattle.dp_cert.specs.Reading.{of_bytes, row_in, row_of}
use Rattle.dp_cert.proofs.Again.{line_again}
use Rattle.dp_cert.proofs.Found.{fails}

-- what is wrong with a line alone
abbrev pub IsWrongLine : Version → List ℕ → Cause → Type 0
IsWrongLine version line BadLine = is_line line ≡ false
IsWrongLine version line BadRow = (is_line line ≡ true) × ((row : Row) → IsRow version row → line ≢ row_line row)
IsWrongLine version line BadHead = ⊥
IsWrongLine version line BadCount = ⊥

pub not_spelled : (version : Version) (line : List ℕ) (cause : Cause) → row_of version line ≡ Err cause → (row : Row) → IsRow version row → line ≢ row_line row
not_spelled version line cause h row fits e = let other : row_of version line ≡ Ok row = rw e (line_again version row fits) in absurd (cc (h, other))

pub same_error : {A E : Type 0} (x y : E) → fails {A = A} x ≡ fails y → x ≡ y
same_error x y h = cc

-- one of the two tests suffices
pub some_value : (a b d : Bool) (x y z : ℕ) → (d || b) ≡ true → is_some (cond a (Some x) (cond b (Some y) (cond d (Some z) None))) ≡ true
some_value true b d x y z h = refl
some_value false true d x y z h = refl
some_value false false true x y z h = refl
some_value false false false x y z h = absurd cc

pub is_hex : (c : ℕ) → is_digit c ≡ true → is_hex_digit c ≡ true
is_hex c h = some_value (nat_le 65 c && nat_le c 70) (nat_le 97 c && nat_le c 102) (nat_le 48 c && nat_le c 57) (c - 55) (c - 87) (c - 48) h

pub all_hex : (digits : List ℕ) → list_all is_digit digits ≡ true → list_all is_hex_digit digits ≡ true
all_hex [] h = refl
all_hex (c ∷ digits) h =
    let p = and_parts (is_digit c) (list_all is_digit digits) h in
    rw (is_hex c p.0, all_hex digits p.1) refl

-- a line of digits decodes to bytes
pub has_bytes : (line : List ℕ) → is_line line ≡ true → IsOk (decode_sized (digits_in line) 153)
has_bytes line h =
    let p = and_parts (eqb (length line) 307 && list_all is_digit (digits_in line)) (eqb (get_or line (length line - 1) 0) 10) h in
    let q = and_parts (eqb (length line) 307) (list_all is_digit (digits_in line)) p.0 in
    let long : length line ≡ 307 = (Decides-eqb (length line) 307).0 q.0 in
    let half : length (digits_in line) ≡ 2 * 153 = omega (arith, long, length-take (length line - 1) line) in
    (IsOk-decode_sized (digits_in line) 153).1 (half, AllPass-from_list_all is_hex_digit (digits_in line) (all_hex (digits_in line) q.1))

-- what is wrong with a line of digits is its row
pub row_wrong : (b : Bool) (row : Row) (cause : Cause) → cond b (Ok row) (Err BadRow) ≡ Err cause → cause ≡ BadRow
row_wrong true row cause h = absurd cc
row_wrong false row cause h = cc

pub bytes_wrong : (version : Version) (line : List ℕ) (d : Result (List ℕ) FromHexError) (cause : Cause) → IsOk d → of_bytes version line d ≡ Err cause →
    cause ≡ BadRow
bytes_wrong version line (Ok bytes) cause ok h = row_wrong (bytes_eq (row_line (row_in bytes)) line && is_row_of version (row_in bytes)) (row_in bytes) cause h
bytes_wrong version line (Err e) cause ok h = absurd cc

pub line_wrong : (version : Version) (line : List ℕ) (cause : Cause) → row_of version line ≡ Err cause → IsWrongLine version line cause
unfolding row_of
line_wrong version line cause h = go (is_line line) refl
  where
    go : (b : Bool) → is_line line ≡ b → IsWrongLine version line cause
    go true e =
        let read : of_bytes version line (decode_sized (digits_in line) 153) ≡ Err cause = rw e at h in
        let is : cause ≡ BadRow = bytes_wrong version line (decode_sized (digits_in line) 153) cause (has_bytes line e) read in
        subst (λ (x : Cause). IsWrongLine version line x) (sym is) (e, not_spelled version line cause h)
    go false e =
        let read : Err BadLine ≡ Err cause = rw e at h in
        subst (λ (x : Cause). IsWrongLine version line x) (same_error BadLine cause read) e

-- the next of the lines is wrong
pub next_wrong : (version : Version) (n : ℕ) (rows : List Row) (rest : List ℕ) (cause : Cause) → length rows < n → 0 < length rest →
    IsWrongLine version (take 307 rest) cause → IsWrong version n rows rest cause
next_wrong version n rows rest BadHead lt some h = h
next_wrong version n rows rest BadLine lt some h = (lt, some, h)
next_wrong version n rows rest BadRow lt some (digits, other) = (lt, digits, other)
next_wrong version n rows rest BadCount lt some h = absurd h

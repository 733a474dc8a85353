-- What is read is spelled by the text.
use Rattle.std.proofs.Common.{◌≡◌, ℕ, zero, suc, ◌+◌, ◌&&◌, Bool, true, false, cond, List, [], ◌∷◌, ◌++◌, length, take, drop, Result, Ok, Err, refl, sym, ap}
use Rattle.std.proofs.Common.{subst, ◌∙◌}
use Rattle.std.specs.Prelude.{IfOk, IsTrue, nat_eq, Option, Some, None}
use Rattle.std.specs.Global.{Vec}
use Rattle.std.specs.List.{flat_map, list_all, AllByRecursion, starts_with}
use Rattle.std.specs.Str.{bytes_eq}
use Rattle.std.proofs.lemmas.List.{take-append-drop}
use Rattle.std.proofs.lemmas.Bool.Decides.{Decides-eqb}
use Rattle.std.proofs.lemmas.Slice.Eq.{bytes_eq-Decides, starts_is}
use Rattle.hex.specs.Hex.{decode_sized}
use Rattle.hex.specs.declared.error.FromHexError.{FromHexError}
use Rattle.dp_model.specs.declared.row.Row.{Row}
use Rattle.dp_cert.specs.declared.error.Cause.{Cause}
use Rattle.dp_cert.specs.declared.error.Cause.TheVariants.{BadHead, BadLine, BadRow}
use Rattle.dp_cert.specs.declared.error.Fault.{Fault}
use Rattle.dp_cert.specs.declared.error.CertError.{CertError}
use Rattle.dp_cert.specs.Spelling.{Certificate, is_row_of, row_line, head_line, CertText}
use Rattle.dp_cert.specs.declared.cert.Version.{Version}
use Rattle.dp_cert.specs.declared.cert.Version.TheVariants.{One, Two}
use Rattle.std.proofs.lemmas.Option.{same_Some}
use Rattle.std.proofs.lemmas.Bool.{and_parts}
use Rattle.dp_cert.specs.Reading.{◌>>=◌, at_line, onto, is_line, digits_in, of_bytes, spelled_row, row_in, row_of, rows_of, version_in, certified, cert_of}
use Rattle.dp_cert.specs.Reading.{Gives}

pub chosen : {A E : Type 0} (b : Bool) (r : Result A E) (e : E) (x : A) → cond b r (Err e) ≡ Ok x → (b ≡ true) × (r ≡ Ok x)
chosen true r e x h = (refl, h)
chosen false r e x h = absurd cc

pub bind_ok : {A B E : Type 0} (r : Result A E) (f : A → Result B E) (y : B) → (r >>= f) ≡ Ok y → (x : A) × (r ≡ Ok x) × (f x ≡ Ok y)
bind_ok (Ok x) f y h = (x, refl, h)
bind_ok (Err e) f y h = absurd cc

abbrev pub fails : {A E : Type 0} → E → Result A E
fails e = Err e

pub from_line : {A : Type 0} (line : ℕ) (r : Result A Cause) (x : A) → at_line line r ≡ Ok x → r ≡ Ok x
from_line line (Ok a) x h = let e : a ≡ x = cc in ap (λ (z : _). Ok z) e
from_line line (Err c) x h = absurd cc

module _ (version : Version) where
  -- the line spells the row, which is well formed
  pub record Spells (line : List ℕ) (row : Row) : Type 0 where
    pub text : line ≡ row_line row
    pub well_formed : is_row_of version row ≡ true

  spelled_found : (line : List ℕ) (made row : Row) → spelled_row version line made ≡ Ok row → Spells line row
  spelled_found line made row h =
      let (tests, is) = chosen (bytes_eq (row_line made) line && is_row_of version made) (Ok made) BadRow row h in
      let (equal, well_formed) = and_parts (bytes_eq (row_line made) line) (is_row_of version made) tests in
      let same : made ≡ row = cc in
      subst (Spells line) same (record { text = sym ((bytes_eq-Decides (row_line made) line).0 equal); well_formed = well_formed })

  bytes_found : (line : List ℕ) (d : Result (List ℕ) FromHexError) (row : Row) → of_bytes version line d ≡ Ok row → Spells line row
  bytes_found line (Ok bytes) row h = spelled_found line (row_in bytes) row h
  bytes_found line (Err e) row h = absurd cc

  pub row_found : (line : List ℕ) (row : Row) → row_of version line ≡ Ok row → Spells line row
  unfolding row_of
  row_found line row h = bytes_found line (decode_sized (digits_in line) 153) row
      (chosen (is_line line) (of_bytes version line (decode_sized (digits_in line) 153)) BadLine row h).1

  -- the bytes spell n rows
  pub record SpellAll (n : ℕ) (bytes : List ℕ) (rows : List Row) : Type 0 where
    pub text : bytes ≡ flat_map row_line rows
    pub count : length rows ≡ n
    pub well_formed : AllByRecursion (λ row. is_row_of version row ≡ true) rows

  rows_found : (line n : ℕ) (bytes : List ℕ) (rows : List Row) → rows_of version line n bytes ≡ Ok rows → SpellAll n bytes rows
  unfolding rows_of
  rows_found line zero [] rows h = let none : [] ≡ rows = cc in subst (SpellAll 0 []) none (record { text = refl; count = refl; well_formed = tt })
  rows_found line zero (b ∷ bytes) rows h = absurd cc
  rows_found line (suc n) [] rows h = absurd cc
  rows_found line (suc n) (b ∷ bytes) rows h =
      let front = take 307 (b ∷ bytes) in
      let back = drop 307 (b ∷ bytes) in
      let (row, first, then) = bind_ok (at_line line (row_of version front)) (λ row. rows_of version (line + 1) n back >>= onto row) rows h in
      let (more, rest, is) = bind_ok (rows_of version (line + 1) n back) (onto row) rows then in
      let one = row_found front row (from_line line (row_of version front) row first) in
      let others = rows_found (line + 1) n back more rest in
      let same : row ∷ more ≡ rows = cc in
      subst (SpellAll (suc n) (b ∷ bytes)) same (record {
        text = sym (take-append-drop 307 (b ∷ bytes)) ∙ ap (λ (x : List ℕ). x ++ back) one.text ∙ ap (λ (x : List ℕ). row_line row ++ x) others.text;
        count = ap suc others.count;
        well_formed = (one.well_formed, others.well_formed);
      })

-- the version in the first line
pub head_found : (text : List ℕ) (version : Version) → version_in text ≡ Some version → text ≡ head_line version ++ drop 11 text
head_found text version h = one (starts_with nat_eq text (head_line One)) refl
  where
    begins : (v : Version) → starts_with nat_eq text (head_line v) ≡ true → text ≡ head_line v ++ drop (length (head_line v)) text
    begins v e = (starts_is Decides-eqb text (head_line v) (starts_with nat_eq text (head_line v)) refl).0 e

    two : (b : Bool) → starts_with nat_eq text (head_line Two) ≡ b → starts_with nat_eq text (head_line One) ≡ false → text ≡ head_line version ++ drop 11 text
    two true e f =
        let is : Some Two ≡ Some version = sym (rw (f, e) refl) ∙ h in
        subst (λ v. text ≡ head_line v ++ drop 11 text) (same_Some Two version is) (begins Two e)
    two false e f = let wrong : None ≡ Some version = sym (rw (f, e) refl) ∙ h in cc

    one : (b : Bool) → starts_with nat_eq text (head_line One) ≡ b → text ≡ head_line version ++ drop 11 text
    one true e =
        let is : Some One ≡ Some version = sym (rw e refl) ∙ h in
        subst (λ v. text ≡ head_line v ++ drop 11 text) (same_Some One version is) (begins One e)
    one false e = two (starts_with nat_eq text (head_line Two)) refl e

cert_found : (n : ℕ) (text : List ℕ) (cert : Certificate) → cert_of n text ≡ Ok cert → CertText n text cert
unfolding cert_of
cert_found n text cert h = go (version_in text) refl
  where
    go : (o : Option Version) → version_in text ≡ o → CertText n text cert
    go None e = let wrong : fails {A = Certificate} {E = Fault} (record { line = 1; cause = BadHead }) ≡ Ok cert = sym (rw e refl) ∙ h in absurd cc
    go (Some version) e =
        let read : certified version (rows_of version 2 n (drop 11 text)) ≡ Ok cert = sym (rw e refl) ∙ h in
        let (rows, found, made) = bind_ok (rows_of version 2 n (drop 11 text)) (λ rows. Ok (record { version = version; rows = rows })) cert read in
        let all = rows_found version 2 n (drop 11 text) rows found in
        let is : record { version = version; rows = rows } ≡ cert = cc in
        subst (CertText n text) is (record {
          text = head_found text version e
              ∙ ap (λ (x : List ℕ). head_line version ++ x) all.text;
          count = all.count;
          well_formed = all.well_formed;
        })

pub is_found : (n : ℕ) (text : List ℕ) (r : Result Certificate CertError) → Gives (λ c. c) r (cert_of n text) → IfOk r (λ c. CertText n text c)
is_found n text (Ok c) h = cert_found n text c h
is_found n text (Err e) h = tt

all_true : (version : Version) (rows : List Row) → AllByRecursion (λ row. is_row_of version row ≡ true) rows → list_all (is_row_of version) rows ≡ true
all_true version [] h = refl
all_true version (row ∷ rows) h = rw (h.0, all_true version rows h.1) refl

pub are_well_formed : (version : Version) (n : ℕ) (text : List ℕ) (r : Result (Vec Row) CertError) → Gives (λ v. v.items) r (rows_of version 2 n text) →
    IfOk r (λ v. IsTrue (list_all (is_row_of version) v.items))
are_well_formed version n text (Ok v) h = all_true version v.items (rows_found version 2 n text v.items h).well_formed
are_well_formed version n text (Err e) h = tt

-- What is wrong where nothing is read.
use Rattle.std.proofs.Common.{◌≡◌, ◌⊎◌, ℕ, zero, suc, ◌+◌, Bool, true, false, List, [], ◌∷◌, ◌++◌, length, take, drop, Result, Ok, Err, refl, sym, ap, subst}
use Rattle.std.proofs.Common.{◌∙◌, append_assoc, inl, inr, arith}
use Rattle.std.specs.Prelude.{Option, Some, None, IfErr, nat_eq}
use Rattle.std.specs.List.{flat_map, AllByRecursion, starts_with}
use Rattle.std.proofs.lemmas.List.{take-append-drop}
use Rattle.dp_model.specs.declared.row.Row.{Row}
use Rattle.dp_cert.specs.declared.cert.Version.{Version}
use Rattle.dp_cert.specs.declared.cert.Version.TheVariants.{One, Two}
use Rattle.dp_cert.specs.declared.error.Cause.{Cause}
use Rattle.dp_cert.specs.declared.error.Cause.TheVariants.{BadHead, BadLine, BadRow, BadCount}
use Rattle.dp_cert.specs.declared.error.Fault.{Fault}
use Rattle.dp_cert.specs.declared.error.CertError.{CertError}
use Rattle.dp_cert.specs.declared.error.CertError.TheVariants as errors
use Rattle.dp_cert.specs.Spelling.{Certificate, is_row_of, row_line, head_line}
use Rattle.dp_cert.specs.Faults.{IsWrong, HasFault, IsFaultOf}
use Rattle.dp_cert.specs.Reading.{◌>>=◌, at_line, onto, row_of, rows_of, version_in, certified, cert_of, Gives}
use Rattle.dp_cert.proofs.Found.{fails, row_found, from_line, head_found, Spells}
use Rattle.dp_cert.proofs.LineFaults.{same_error, line_wrong, next_wrong}

-- the fault after some rows, the first of which is on this line
record Stops (version : Version) (start n : ℕ) (bytes : List ℕ) (fault : Fault) : Type 0 where
  pub rows : List Row
  pub rest : List ℕ
  pub read : bytes ≡ flat_map row_line rows ++ rest
  pub well_formed : AllByRecursion (λ row. is_row_of version row ≡ true) rows
  pub line : fault.line ≡ length rows + start
  pub wrong : IsWrong version n rows rest fault.cause

-- with one row more at the front
later : (version : Version) (n : ℕ) (row : Row) (rows : List Row) (rest : List ℕ) (cause : Cause) → IsWrong version n rows rest cause →
    IsWrong version (suc n) (row ∷ rows) rest cause
later version n row rows rest BadHead h = h
later version n row rows rest BadLine (few, some, other) = (omega arith, some, other)
later version n row rows rest BadRow (few, digits, other) = (omega arith, digits, other)
later version n row rows rest BadCount (inl h) = inl (omega arith, h.1)
later version n row rows rest BadCount (inr h) = inr (omega arith, h.1)

-- a result that is an error
bind_err : {A B E : Type 0} (r : Result A E) (f : A → Result B E) (e : E) → (r >>= f) ≡ Err e → (r ≡ Err e) ⊎ ((x : A) × (r ≡ Ok x) × (f x ≡ Err e))
bind_err (Ok x) f e h = inr (x, refl, h)
bind_err {A = A} {B = B} (Err x) f e h = inl (ap (λ (z : _). Err z) (same_error {A = B} x e h))

line_err : {A : Type 0} (line : ℕ) (r : Result A Cause) (fault : Fault) → at_line line r ≡ Err fault → (r ≡ Err fault.cause) × (fault.line ≡ line)
line_err line (Ok a) fault h = absurd cc
line_err line (Err cause) fault h =
    let same : record { line = line; cause = cause } ≡ fault = same_error (record { line = line; cause = cause }) fault h in
    (ap (λ (f : Fault). Err f.cause) same, sym (ap (λ (f : Fault). f.line) same))

onto_err : (row : Row) (r : Result (List Row) Fault) (fault : Fault) → (r >>= onto row) ≡ Err fault → r ≡ Err fault
onto_err row (Ok rows) fault h = absurd cc
onto_err row (Err f) fault h = h

here : (version : Version) (start n : ℕ) (bytes : List ℕ) (fault : Fault) → fault.line ≡ start → IsWrong version n [] bytes fault.cause →
    Stops version start n bytes fault
here version start n bytes fault at bad = record { rows = []; rest = bytes; read = refl; well_formed = tt; line = omega (arith, at); wrong = bad }

further : (version : Version) (start n : ℕ) (bytes : List ℕ) (fault : Fault) (row : Row) → Spells version (take 307 bytes) row →
    Stops version (start + 1) n (drop 307 bytes) fault → Stops version start (suc n) bytes fault
further version start n bytes fault row one s = record {
  rows = row ∷ s.rows;
  rest = s.rest;
  read = sym (take-append-drop 307 bytes) ∙ ap (λ (x : List ℕ). x ++ drop 307 bytes) one.text ∙ ap (λ (x : List ℕ). row_line row ++ x) s.read
      ∙ sym (append_assoc (row_line row) (flat_map row_line s.rows) s.rest);
  well_formed = (one.well_formed, s.well_formed);
  line = omega (arith, s.line);
  wrong = later version n row s.rows s.rest fault.cause s.wrong;
}

counted : (version : Version) (start n : ℕ) (bytes : List ℕ) (fault : Fault) → IsWrong version n [] bytes BadCount →
    fails {A = List Row} (record { line = start; cause = BadCount }) ≡ fails fault → Stops version start n bytes fault
counted version start n bytes fault bad h =
    let same : record { line = start; cause = BadCount } ≡ fault = same_error (record { line = start; cause = BadCount }) fault h in
    here version start n bytes fault (sym (ap (λ (f : Fault). f.line) same)) (subst (λ (f : Fault). IsWrong version n [] bytes f.cause) same bad)

stops : (version : Version) (start n : ℕ) (bytes : List ℕ) (fault : Fault) → rows_of version start n bytes ≡ Err fault → Stops version start n bytes fault
unfolding rows_of
stops version start zero [] fault h = absurd cc
stops version start zero (b ∷ bytes) fault h = counted version start 0 (b ∷ bytes) fault (inr (refl, omega arith)) h
stops version start (suc n) [] fault h = counted version start (suc n) [] fault (inl (omega arith, refl)) h
stops version start (suc n) (b ∷ bytes) fault h =
    let front = take 307 (b ∷ bytes) in
    let back = drop 307 (b ∷ bytes) in
    elim (bind_err (at_line start (row_of version front)) (λ row. rows_of version (start + 1) n back >>= onto row) fault h) [
      | inl bad ↦
          let (cause_is, line_is) = line_err start (row_of version front) fault bad in
          here version start (suc n) (b ∷ bytes) fault line_is (next_wrong version (suc n) [] (b ∷ bytes) fault.cause (omega arith) (omega arith)
          (line_wrong version front fault.cause cause_is))
      | inr (row, read, then) ↦
          let one = row_found version front row (from_line start (row_of version front) row read) in
          further version start n (b ∷ bytes) fault row one (stops version (start + 1) n back fault
          (onto_err row (rows_of version (start + 1) n back) fault then))
    ]

certified_err : (version : Version) (r : Result (List Row) Fault) (fault : Fault) → certified version r ≡ Err fault → r ≡ Err fault
certified_err version (Ok rows) fault h = absurd cc
certified_err version (Err f) fault h = ap (λ (z : _). Err z) (same_error {A = Certificate} f fault h)

-- the first line is that of no version
no_head : (text : List ℕ) → version_in text ≡ None → (version : Version) → starts_with nat_eq text (head_line version) ≡ false
no_head text h version = go (starts_with nat_eq text (head_line One)) refl
  where
    two : (b : Bool) → starts_with nat_eq text (head_line Two) ≡ b → starts_with nat_eq text (head_line One) ≡ false →
        (version : Version) → starts_with nat_eq text (head_line version) ≡ false
    two true e f version = let wrong : Some Two ≡ None = sym (rw (f, e) refl) ∙ h in cc
    two false e f One = f
    two false e f Two = e

    go : (b : Bool) → starts_with nat_eq text (head_line One) ≡ b → starts_with nat_eq text (head_line version) ≡ false
    go true e = let wrong : Some One ≡ None = sym (rw e refl) ∙ h in cc
    go false e = two (starts_with nat_eq text (head_line Two)) refl e version

is_fault_of : (n : ℕ) (text : List ℕ) (fault : Fault) → cert_of n text ≡ Err fault → HasFault n text fault
unfolding cert_of
is_fault_of n text fault h = go (version_in text) refl
  where
    go : (o : Option Version) → version_in text ≡ o → HasFault n text fault
    go None e =
        let bad : fails {A = Certificate} (record { line = 1; cause = BadHead }) ≡ fails fault = rw e at h in
        inl (record { is = sym (same_error (record { line = 1; cause = BadHead }) fault bad); other = no_head text e })
    go (Some version) e =
        let read : certified version (rows_of version 2 n (drop 11 text)) ≡ Err fault = rw e at h in
        let s = stops version 2 n (drop 11 text) fault (certified_err version (rows_of version 2 n (drop 11 text)) fault read) in
        inr (record {
          cert = record { version = version; rows = s.rows };
          rest = s.rest;
          read = head_found text version e ∙ ap (λ (x : List ℕ). head_line version ++ x) s.read
              ∙ sym (append_assoc (head_line version) (flat_map row_line s.rows) s.rest);
          well_formed = s.well_formed;
          line = s.line;
          wrong = s.wrong;
        })

pub is_fault : (n : ℕ) (text : List ℕ) (r : Result Certificate CertError) → Gives (λ c. c) r (cert_of n text) → IfErr r (λ e. IsFaultOf n text e)
is_fault n text (Ok c) h = tt
is_fault n text (Err errors.Memory) h = tt
is_fault n text (Err (errors.Fault f)) h = is_fault_of n text f h

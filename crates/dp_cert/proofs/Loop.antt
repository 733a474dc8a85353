-- One more row, in a loop that reads rows.
use Rattle.std.proofs.Common.{◌≡◌, ℕ, suc, ◌+◌, ◌-◌, ◌<◌, ◌≤◌, List, [], ◌∷◌, ◌++◌, length, take, drop, Result, Ok, Err, refl, sym, ap, ◌∙◌, append_assoc}
use Rattle.std.proofs.Common.{arith}
use Rattle.std.proofs.lemmas.List.{append-nil}
use Rattle.dp_model.specs.declared.row.Row.{Row}
use Rattle.dp_cert.specs.declared.error.Fault.{Fault}
use Rattle.dp_cert.specs.declared.error.Cause.{Cause}
use Rattle.dp_cert.specs.declared.error.Cause.TheVariants.{BadCount}
use Rattle.dp_cert.specs.declared.cert.Version.{Version}
use Rattle.dp_cert.specs.Reading.{◌>>=◌, onto, at_line, row_of, rows_of}

abbrev pub prepend : List Row → Result (List Row) Fault → Result (List Row) Fault
prepend front read = read >>= λ rows. Ok (front ++ rows)

regroup : (front : List Row) (row : Row) (read : Result (List Row) Fault) → prepend front (read >>= onto row) ≡ prepend (front ++ row ∷ []) read
regroup front row (Ok rows) = ap (λ (rs : List Row). Ok rs) (sym (append_assoc front (row ∷ []) rows))
regroup front row (Err f) = refl

module _ (version : Version) where
  pub one_row : (line n : ℕ) (rest : List ℕ) (read : Result Row Cause) → 0 < length rest → row_of version (take 307 rest) ≡ read
      → rows_of version line (suc n) rest ≡ (at_line line read >>= λ row. rows_of version (line + 1) n (drop 307 rest) >>= onto row)
  unfolding rows_of
  one_row line n [] read lt e = absurd (omega arith)
  one_row line n (b ∷ bytes) read lt e = rw e refl

  pub goes_on : (front : List Row) (n i : ℕ) (rest : List ℕ) (row : Row) (total : Result (List Row) Fault) → i < n → 0 < length rest →
      row_of version (take 307 rest) ≡ Ok row
      → prepend front (rows_of version (i + 2) (n - i) rest) ≡ total → prepend (front ++ row ∷ []) (rows_of version (i + 1 + 2) (n - (i + 1)) (drop 307 rest))
      ≡ total
  goes_on front n i rest row total lt some e so_far =
      let k : n - i ≡ suc (n - (i + 1)) = omega arith in
      let m : i + 2 + 1 ≡ i + 1 + 2 = omega arith in
      let one : prepend front (rows_of version (i + 2) (n - i) rest) ≡ prepend (front ++ row ∷ []) (rows_of version (i + 1 + 2) (n - (i + 1)) (drop 307 rest)) =
      rw (k, one_row (i + 2) (n - (i + 1)) rest (row_of version (take 307 rest)) some refl, e, m)
      (regroup front row (rows_of version (i + 1 + 2) (n - (i + 1)) (drop 307 rest))) in
      sym one ∙ so_far

  pub bad_row : (front : List Row) (n i : ℕ) (rest : List ℕ) (cause : Cause) (total : Result (List Row) Fault) → i < n → 0 < length rest →
      row_of version (take 307 rest) ≡ Err cause → prepend front (rows_of version (i + 2) (n - i) rest) ≡ total
      → total ≡ Err (record { line = i + 2; cause = cause })
  bad_row front n i rest cause total lt some bad so_far =
      let k : n - i ≡ suc (n - (i + 1)) = omega arith in
      let one : prepend front (rows_of version (i + 2) (n - i) rest) ≡ Err (record { line = i + 2; cause = cause }) =
      rw (k, one_row (i + 2) (n - (i + 1)) rest (row_of version (take 307 rest)) some refl, bad) refl in
      sym so_far ∙ one

  pub too_few : (front : List Row) (n i : ℕ) (rest : List ℕ) (total : Result (List Row) Fault) → i < n → length rest ≡ 0
      → prepend front (rows_of version (i + 2) (n - i) rest) ≡ total → total ≡ Err (record { line = i + 2; cause = BadCount })
  unfolding rows_of
  too_few front n i [] total lt none so_far =
      let k : n - i ≡ suc (n - (i + 1)) = omega arith in
      let one : prepend front (rows_of version (i + 2) (n - i) []) ≡ Err (record { line = i + 2; cause = BadCount }) = rw k refl in
      sym so_far ∙ one
  too_few front n i (b ∷ bytes) total lt none so_far = absurd (omega arith)

  pub too_many : (front : List Row) (n i : ℕ) (rest : List ℕ) (total : Result (List Row) Fault) → n ≤ i → 0 < length rest
      → prepend front (rows_of version (i + 2) (n - i) rest) ≡ total → total ≡ Err (record { line = i + 2; cause = BadCount })
  unfolding rows_of
  too_many front n i [] total le some so_far = absurd (omega arith)
  too_many front n i (b ∷ bytes) total le some so_far =
      let k : n - i ≡ 0 = omega arith in
      let one : prepend front (rows_of version (i + 2) (n - i) (b ∷ bytes)) ≡ Err (record { line = i + 2; cause = BadCount }) = rw k refl in
      sym so_far ∙ one

  pub all_read : (front : List Row) (n i : ℕ) (rest : List ℕ) (total : Result (List Row) Fault) → n ≤ i → length rest ≡ 0
      → prepend front (rows_of version (i + 2) (n - i) rest) ≡ total → total ≡ Ok front
  unfolding rows_of
  all_read front n i [] total le none so_far =
      let k : n - i ≡ 0 = omega arith in
      let one : prepend front (rows_of version (i + 2) (n - i) []) ≡ Ok front = rw k (ap (λ (rs : List Row). Ok rs) (append-nil front)) in
      sym so_far ∙ one
  all_read front n i (b ∷ bytes) total le none so_far = absurd (omega arith)

-- Rows that a certificate of a version may have.
use Rattle.std.proofs.Common.{◌≡◌, Bool, true, false, cond, not, List, [], ◌∷◌, refl, sym, ap, subst, IsTrue}
use Rattle.std.specs.List.{list_all, list_any}
use Rattle.std.proofs.lemmas.Bool.{and_parts, or_parts}
use Rattle.dp_model.specs.declared.row.Row.{Row}
use Rattle.dp_model.specs.Rows.{is_well_formed_row, have_groups}
use Rattle.dp_cert.specs.declared.cert.Version.{Version}
use Rattle.dp_cert.specs.declared.cert.Version.TheVariants.{One, Two}
use Rattle.dp_cert.specs.Spelling.{is_row_of, version_for}

-- each of them is well formed
pub rows_well_formed : (version : Version) (rows : List Row) → IsTrue (list_all (is_row_of version) rows) → IsTrue (list_all is_well_formed_row rows)
rows_well_formed version [] h = refl
rows_well_formed One (row ∷ rows) h =
    let (here, rest) = and_parts (is_row_of One row) (list_all (is_row_of One) rows) h in
    rw ((and_parts (is_well_formed_row row) (not (have_groups row.facts)) here).0, rows_well_formed One rows rest) refl
rows_well_formed Two (row ∷ rows) h = h

-- version 2 may have them
pub raised_rows : (version : Version) (rows : List Row) → IsTrue (list_all (is_row_of version) rows) → IsTrue (list_all (is_row_of Two) rows)
raised_rows version rows h = rows_well_formed version rows h

plain_rows : (rows : List Row) → list_all is_well_formed_row rows ≡ true → list_any (λ row. have_groups row.facts) rows ≡ false →
    list_all (is_row_of One) rows ≡ true
plain_rows [] h none = refl
plain_rows (row ∷ rows) h none =
    let (here, rest) = and_parts (is_well_formed_row row) (list_all is_well_formed_row rows) h in
    let (one, more) = or_parts (have_groups row.facts) (list_any (λ row. have_groups row.facts) rows) none in
    rw (here, one, plain_rows rows rest more) refl

-- so may their own version
pub rows_of_version : (rows : List Row) → IsTrue (list_all is_well_formed_row rows) → IsTrue (list_all (is_row_of (version_for rows)) rows)
rows_of_version rows h = go (list_any (λ row. have_groups row.facts) rows) refl
  where
    go : (b : Bool) → list_any (λ row. have_groups row.facts) rows ≡ b → list_all (is_row_of (version_for rows)) rows ≡ true
    go true e = subst (λ v. list_all (is_row_of v) rows ≡ true) (sym (ap (λ b. cond b Two One) e)) h
    go false e = subst (λ v. list_all (is_row_of v) rows ≡ true) (sym (ap (λ b. cond b Two One) e)) (plain_rows rows h e)

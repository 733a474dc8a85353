-- By the first line.
use Rattle.std.proofs.Common.{◌≡◌, ◌-◌, ℕ, List, length, take, drop, Ok, arith, sym, ◌∙◌}
use Rattle.std.proofs.lemmas.List.{take_all, length-drop}
use Rattle.std.proofs.lemmas.Result.{err_from_is_err_and}
use Rattle.dp_cert.proofs.Found.{are_well_formed}
use Rattle.dp_cert.proofs.Heads.{no_version, all_of, error_of, is_long}
use Rattle.dp_cert.proofs.decoding.read.Goals as goal

pub returns-in_default : goal.returns-in_default
returns-in_default c = no_version c.args.n c.args.text.now (sym c.version_in.ensures ∙ c.in_default.is)

-- the bytes after the first line
beyond : (text : List ℕ) → take (length text - 11) (drop 11 text) ≡ drop 11 text
beyond text = take_all (length text - 11) (drop 11 text) (omega (arith, length-drop 11 text))

pub returns : goal.returns
returns c =
    all_of c.args.n c.args.text.now c.in-Some.version c.in_ok-rows.rows.items c.of_version.result (sym c.version_in.ensures ∙ c.in-Some.is)
    (rw (beyond c.args.text.now) at c.in_ok-rows.ensures) c.of_version.ensures.rows c.of_version.ensures.version

pub returns-in_err-rows : goal.returns-in_err-rows
returns-in_err-rows c =
    let (_, is, was) = err_from_is_err_and c.from_residual.result c.from_residual.ensures.1 in
    rw (is, was) (error_of c.args.n c.args.text.now c.in-Some.version c.in_err-rows.field-0.0 (sym c.version_in.ensures ∙ c.in-Some.is)
    (rw (beyond c.args.text.now) at c.in_err-rows.ensures))

pub of_version-requires : goal.of_version-requires
of_version-requires c =
    are_well_formed c.in-Some.version c.args.n (drop 11 c.args.text.now) (Ok c.in_ok-rows.rows) (rw (beyond c.args.text.now) at c.in_ok-rows.ensures)

pub slice_bounds-rows_of-start : goal.slice_bounds-rows_of-start
slice_bounds-rows_of-start c = omega (arith, is_long c.args.text.now c.in-Some.version (sym c.version_in.ensures ∙ c.in-Some.is))

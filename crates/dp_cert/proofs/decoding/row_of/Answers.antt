-- A line whose digits decode gives the row that they spell, or none.
use Rattle.std.proofs.Common.{◌≡◌, true, rules, sym}
use Rattle.dp_cert.specs.Reading.{is_line}
use Rattle.dp_cert.proofs.Rows.{row_some, row_none}
use Rattle.dp_cert.proofs.decoding.row_of.Goals as goal

pub returns-in-Some : goal.returns-in-Some
returns-in-Some c =
    let good : is_line c.args.line.now ≡ true = search rules in
    rw (row_some c.args.version c.args.line.now c.in-Some.bytes good (rw c.digits_in.ensures at c.in-Some.ensures), ← c.row_in.ensures) c.spelled_row.ensures

pub returns-in-None : goal.returns-in-None
returns-in-None c =
    let good : is_line c.args.line.now ≡ true = search rules in
    sym (row_none c.args.version c.args.line.now c.bytes_of.result good c.in-None.is (rw c.digits_in.ensures at c.bytes_of.ensures))

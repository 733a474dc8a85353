-- Each line adds a row or is the first fault; a line too few or too many is a fault.
use Rattle.std.proofs.Common.{◌≡◌, ◌<◌, ◌++◌, ◌∷◌, [], ◌∙◌, take, drop, length, rules, arith, sym}
use Rattle.dp_cert.proofs.Rows.{take_min, drop_min}
use Rattle.dp_cert.proofs.Loop.{goes_on, bad_row, too_few, too_many, all_read}
use Rattle.dp_cert.proofs.decoding.rows_of.Goals as goal

pub returns-then-is_empty : goal.returns-then-is_empty
returns-then-is_empty c =
    let none : length c.loop-i.rest.now ≡ 0 = search rules in
    too_few c.args.version c.loop-i.rows.items c.args.n c.loop-i.i c.loop-i.rest.now _ c.loop-i-test.true none c.loop-i.invariant.told

pub returns-in-Err : goal.returns-in-Err
returns-in-Err c =
    let some : 0 < length c.loop-i.rest.now = search rules in
    let front : c.split_at.result.0.now ≡ take 307 c.loop-i.rest.now = c.split_at.ensures.front ∙ rw c.min.ensures (take_min 307 c.loop-i.rest.now) in
    bad_row c.args.version c.loop-i.rows.items c.args.n c.loop-i.i c.loop-i.rest.now c.in-Err.cause _ c.loop-i-test.true some
    (rw front at (sym c.row_of.ensures ∙ c.in-Err.is)) c.loop-i.invariant.told

pub loop-i-preserved : goal.loop-i-preserved
loop-i-preserved c =
    let some : 0 < length c.loop-i.rest.now = search rules in
    let front : c.split_at.result.0.now ≡ take 307 c.loop-i.rest.now = c.split_at.ensures.front ∙ rw c.min.ensures (take_min 307 c.loop-i.rest.now) in
    let back : c.split_at.result.1.now ≡ drop 307 c.loop-i.rest.now = c.split_at.ensures.back ∙ rw c.min.ensures (drop_min 307 c.loop-i.rest.now) in
    let items : c.push.new.self.items ≡ c.loop-i.rows.items ++ c.in-Ok.row ∷ [] = search rules in
    record {
      told = rw (items, back) (goes_on c.args.version c.loop-i.rows.items c.args.n c.loop-i.i c.loop-i.rest.now c.in-Ok.row _
          c.loop-i-test.true some (rw front at (sym c.row_of.ensures ∙ c.in-Ok.is)) c.loop-i.invariant.told);
      far = omega (arith, c.split_at.ensures.back_len, c.min.ensures, c.loop-i.invariant.far);
    }

pub returns-then-is_empty-2 : goal.returns-then-is_empty-2
returns-then-is_empty-2 c =
    let none : length c.loop-i.rest.now ≡ 0 = search rules in
    all_read c.args.version c.loop-i.rows.items c.args.n c.loop-i.i c.loop-i.rest.now _ c.loop-i-test.false none c.loop-i.invariant.told

pub returns-else-is_empty-2 : goal.returns-else-is_empty-2
returns-else-is_empty-2 c =
    let some : 0 < length c.loop-i.rest.now = search rules in
    let all : c.loop-i.i ≡ c.args.n = omega (arith, c.loop-i.auto.i-end) in
    rw all at (too_many c.args.version c.loop-i.rows.items c.args.n c.loop-i.i c.loop-i.rest.now _ c.loop-i-test.false some c.loop-i.invariant.told)

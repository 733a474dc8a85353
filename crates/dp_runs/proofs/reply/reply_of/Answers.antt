-- `reply_of`: each text is made of its parts, in their order.
use Rattle.std.proofs.Common.{List, ℕ, ◌++◌, ◌∙◌, ap}
use Rattle.dp_console.specs.declared.reply.Text.{Text}
use Rattle.dp_runs.specs.Replies.{Parts}
use Rattle.dp_runs.proofs.reply.reply_of.Goals as goal

-- the parts of what is said, each a text
parts_of : Text → Text → Text → Text → Text → Parts
parts_of report totals problem counts notes = record {
  totals = totals.bytes.items;
  report = report.bytes.items;
  more = problem.bytes.items;
  counts = counts.bytes.items;
  notes = notes.bytes.items;
}

pub returns-then-printing-clause-parts : goal.returns-then-printing-clause-parts
unfolding parts_of
returns-then-printing-clause-parts c whole =
    let (counted, notes, err_is) = c.both-err.ensures whole.1 in
    let (stopped, counts, counted_is) = c.both-counted.ensures counted in
    let (reported, stop, stopped_is) = c.both-stopped.ensures stopped in
    let (totals, main, reported_is) = c.both-reported.ensures reported in
    let (totals_text, problem_text, counts_text, notes_text) = c.others_of-totals.result in
    let stop_is = c.stop_of-stop.ensures stop in
    record {
      parts = parts_of c.main_of-main.result totals_text problem_text counts_text notes_text;
      report = λ text. c.main_of-main.ensures text main;
      out = rw c.if-printing.true c.new-out.ensures.empty;
      err = rw c.if-printing.true (err_is ∙ ap (λ (l : List ℕ). l ++ notes_text.bytes.items) (counted_is
          ∙ ap (λ (l : List ℕ). l ++ counts_text.bytes.items) (stopped_is
          ∙ ap (λ (l : List ℕ). l ++ c.stop_of-stop.result.bytes.items) reported_is
          ∙ ap (λ (l : List ℕ). (totals_text.bytes.items ++ c.main_of-main.result.bytes.items) ++ l) stop_is)));
    }

pub returns-clause-parts : goal.returns-clause-parts
unfolding parts_of
returns-clause-parts c whole =
    let (main, counts, out_is) = c.both-out.ensures whole.0 in
    let (stopped, notes, err_is) = c.both-err-2.ensures whole.1 in
    let (totals, stop, stopped_is) = c.both-stopped-2.ensures stopped in
    let (totals_text, problem_text, counts_text, notes_text) = c.others_of-totals.result in
    let stop_is = c.stop_of-stop.ensures stop in
    record {
      parts = parts_of c.main_of-main.result totals_text problem_text counts_text notes_text;
      report = λ text. c.main_of-main.ensures text main;
      out = rw c.if-printing.false out_is;
      err = rw c.if-printing.false (err_is ∙ ap (λ (l : List ℕ). l ++ notes_text.bytes.items) (stopped_is
          ∙ ap (λ (l : List ℕ). totals_text.bytes.items ++ l) stop_is));
    }

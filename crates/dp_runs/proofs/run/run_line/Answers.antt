-- `run_line`: the run is that of `run_captures`, what is said of it that of `reply_of`, and `Reply::print` ends with it.
use Rattle.dp_runs.proofs.run.run_line.Goals as goal

pub returns : goal.returns
returns g c = record {
  flushed = c.run_captures-flushed.result;
  before = _;
  after = _;
  run = c.run_captures-flushed.ensures;
  reply = c.reply_of-reply.result;
  said = c.reply_of-reply.ensures.parts;
  status_is = c.reply_of-reply.ensures.status;
  printed = c.print.ensures;
}

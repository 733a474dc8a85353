-- `run_opened`: the run is that of `run_over`, and what is said of it that of `reply_of`.
use Rattle.dp_cli.proofs.running.run_opened.Goals as goal

pub returns : goal.returns
returns g c = record {
  before = _;
  after = _;
  flushed = c.run_over-ran.result.flushed;
  run = c.run_over-ran.ensures;
  is_json = c.flag-is_json.result;
  json = c.flag-is_json.ensures;
  said = c.reply_of.ensures.parts;
  status_is = c.reply_of.ensures.status;
}

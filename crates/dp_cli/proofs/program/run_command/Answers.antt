-- `run_command`: the reply to the command is what is printed.
use Rattle.dp_cli.proofs.program.run_command.Goals as goal

pub returns-in_default : goal.returns-in_default
returns-in_default g c = λ _ _. record {
  reply = c.replied.result;
  answers = c.replied.ensures;
  ends = rw (c.said-reply-in_default.ensures) at c.end-in_default.ensures;
}

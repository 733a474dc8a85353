-- The command that a parse entered ran.
use Rattle.std.proofs.Common.{refl}
use Rattle.clap.specs.Matches.{found_of}
use Rattle.dp_cli.proofs.Entering.{entered, none_entered}
use Rattle.dp_cli.proofs.program.run_matches.Goals as goal

pub returns : goal.returns
returns g c = rw (entered _ _ _ c.in-Some.ensures.name c.in-Some.ensures.rows) (found_of c.in-Some.words.now, refl, c.run_command.ensures)

pub returns-in_default : goal.returns-in_default
returns-in_default g c = rw (none_entered _ c.in_default.ensures.name) refl

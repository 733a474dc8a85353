-- `inferred_one`: the certificate is that of the program that the words name, on the port of `dpv one`.
use Rattle.dp_sources.specs.Sources.{files_of}
use Rattle.dp_cli.proofs.judging.inferred_one.Goals as goal

pub returns : goal.returns
returns g c = (
  files_of c.in_ok-sources.sources,
  rw (c.alone-subject.ensures, c.one_env-env.ensures, c.word-program.ensures) at c.infer_one.ensures,
)

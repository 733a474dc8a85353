-- `captures_by`: the words are wrong.
use Rattle.std.proofs.Common.{inl}
use Rattle.dp_cli.proofs.running.captures_by.Goals as goal

pub returns : goal.returns
returns g c = record {
  given = tt;
  wrong = inl (
    c.wrong.ensures,
    rw (c.as_slice.ensures.value, c.as_slice-2.ensures.value, c.in-Ok.ensures, c.in-Ok-all.ensures) at
        (c.in-Err.ensures.none c.in_default-problem.not-Memory),
  );
}

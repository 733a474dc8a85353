-- `load_pipeline`: no pipeline file is ready to be loaded.
use Rattle.std.proofs.Common.{rules, ◌≡◌, Err, inl}
use Rattle.dp_request.proofs.reading.load_pipeline.Goals as goal

pub returns-in_err-file-clause-stops : goal.returns-in_err-file-clause-stops
returns-in_err-file-clause-stops g c =
    let is : c.from_residual.result ≡ Err c.in_err-file.field-0.0 = search rules in
    rw is (inl (rw c.in_err-file.was at c.read_pipeline.ensures))

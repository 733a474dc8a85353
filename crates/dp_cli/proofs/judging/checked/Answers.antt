-- `checked`: the words are right, and no pipeline file is ready; or the verdict is that on the text that was read, and what is added keeps its status.
use Rattle.std.proofs.Common.{rules, ◌≡◌, ◌∙◌, Err, inl, inr, sym}
use Rattle.dp_sources.specs.Sources.{files_of}
use Rattle.dp_cli.proofs.judging.checked.Goals as goal

pub returns : goal.returns
returns g c = record {
  text = c.text.result.now;
  files = files_of c.in_ok-sources.sources;
  answer = c.check_text-reply.result.1;
  loaded = c.check_text-reply.ensures.loaded;
  unloaded = c.check_text-reply.ensures.unloaded;
  is_json = c.flag-is_json.result;
  said = c.check_text-reply.result.0;
  says = c.check_text-reply.ensures.said;
  status_is = c.say_more.ensures;
  accepted = λ zero. c.check_text-reply.ensures.accepted (sym c.say_more.ensures ∙ zero);
}

pub returns-in_err-given : goal.returns-in_err-given
returns-in_err-given g c =
    let is : c.from_residual.result ≡ Err c.in_err-given.field-0.0 = search rules in
    rw is (inr (
      (c.flag-is_json.result, c.flag-with_sizes.result, c.flag-is_json.ensures, c.flag-with_sizes.ensures, c.if-is_json-with_sizes.false),
      inl (rw c.in_err-given.was at c.read_pipeline.ensures),
    ))

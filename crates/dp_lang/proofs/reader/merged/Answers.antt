-- `merged`: the lesser of both errors.
use Rattle.dp_lang.proofs.LineErrors.{both_stop}
use Rattle.dp_lang.proofs.reader.merged.Goals as goal

pub returns-clause-both : goal.returns-clause-both
returns-clause-both c = λ S L ls h g.
    rw c.or_less.ensures (both_stop c.in-Err-Err.error c.in-Err-Err.other S L (rw c.in-Err-Err.is-0 at h) (rw c.in-Err-Err.is-1 at g))

-- The law is a lemma.
use Rattle.dp_model.proofs.LongestPrefix.{readings_agree}
use Rattle.dp_model.proofs.definition_laws.longest_prefixes_agree.Goals as goal

pub returns : goal.returns
returns c = readings_agree

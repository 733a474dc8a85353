-- The law is two lemmas.
use Rattle.dp_lang.proofs.ReadBack.{reads_back}
use Rattle.dp_lang.proofs.Spellings.{one_program}
use Rattle.dp_lang.proofs.laws.printed_texts_read_back.Goals as goal

pub returns-clause-reads : goal.returns-clause-reads
returns-clause-reads c = reads_back

pub returns-clause-one : goal.returns-clause-one
returns-clause-one c = one_program

-- What is spelled is read back.
use Rattle.dp_cert.proofs.Again.{cert_again}
use Rattle.dp_cert.proofs.laws.encoded_certificates_are_read_again.Goals as goal

pub returns : goal.returns
returns c = cert_again

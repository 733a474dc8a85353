-- What is read, and why it is not.
use Rattle.std.proofs.Common.{◌≡◌, Ok, subst}
use Rattle.dp_cert.specs.Reading.{Gives, cert_of}
use Rattle.dp_cert.proofs.Found.{is_found}
use Rattle.dp_cert.proofs.Again.{cert_again}
use Rattle.dp_cert.proofs.Faulty.{is_fault}
use Rattle.dp_cert.proofs.decoding.decode.Goals as goal

pub returns-clause-found : goal.returns-clause-found
returns-clause-found c = is_found c.args.n c.args.text.now c.read.result c.read.ensures

pub returns-clause-only : goal.returns-clause-only
returns-clause-only c = λ cert fits count text.
    let e : cert_of c.args.n c.args.text.now ≡ Ok cert = rw (text, ← count) (cert_again cert fits) in
    subst (λ f. Gives (λ c. c) c.read.result f) e c.read.ensures

pub returns-clause-fault : goal.returns-clause-fault
returns-clause-fault c = is_fault c.args.n c.args.text.now c.read.result c.read.ensures

-- Each rule's function ensures its part.
use Rattle.std.proofs.Common.{refl}
use Rattle.dp_check.specs.Faults.{question}
use Rattle.dp_check.proofs.rules.reason_in.Goals as goal

pub returns-in-Some-clause-says : goal.returns-in-Some-clause-says
returns-in-Some-clause-says c = λ version entry. c.in-Some.ensures.says
    (question c.args.program.now (record { version = version; rows = c.args.rows.now }) c.args.env.now entry) refl c.args.label c.args.row.now

pub returns-in-Some-check_held-clause-says : goal.returns-in-Some-check_held-clause-says
returns-in-Some-check_held-clause-says c = λ version entry. c.in-Some-check_held.ensures.says
    (question c.args.program.now (record { version = version; rows = c.args.rows.now }) c.args.env.now entry) c.args.label

pub returns-in-Some-check_target-clause-says : goal.returns-in-Some-check_target-clause-says
returns-in-Some-check_target-clause-says c = λ version entry. c.in-Some-check_target.ensures.says
    (question c.args.program.now (record { version = version; rows = c.args.rows.now }) c.args.env.now entry) c.args.label

pub returns-in-Some-check_bytes-clause-says : goal.returns-in-Some-check_bytes-clause-says
returns-in-Some-check_bytes-clause-says c = λ version entry. c.in-Some-check_bytes.ensures.says
    (question c.args.program.now (record { version = version; rows = c.args.rows.now }) c.args.env.now entry) c.args.label

pub returns-in-Some-check_share-clause-says : goal.returns-in-Some-check_share-clause-says
returns-in-Some-check_share-clause-says c = λ version entry. c.in-Some-check_share.ensures.says
    (question c.args.program.now (record { version = version; rows = c.args.rows.now }) c.args.env.now entry) c.args.label

pub returns-in-Some-check_segments-clause-says : goal.returns-in-Some-check_segments-clause-says
returns-in-Some-check_segments-clause-says c = λ version entry. c.in-Some-check_segments.ensures.says
    (question c.args.program.now (record { version = version; rows = c.args.rows.now }) c.args.env.now entry) c.args.label

pub returns-in-Some-check_destination-clause-says : goal.returns-in-Some-check_destination-clause-says
returns-in-Some-check_destination-clause-says c = λ version entry. c.in-Some-check_destination.ensures.says
    (question c.args.program.now (record { version = version; rows = c.args.rows.now }) c.args.env.now entry) refl c.args.label

pub returns-in-Some-check_end-clause-says : goal.returns-in-Some-check_end-clause-says
returns-in-Some-check_end-clause-says c = λ version entry. c.in-Some-check_end.ensures.says
    (question c.args.program.now (record { version = version; rows = c.args.rows.now }) c.args.env.now entry) c.args.label

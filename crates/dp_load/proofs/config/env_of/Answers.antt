-- `env_of`: the environment is made of what the setup has.
use Rattle.std.proofs.Common.{◌∙◌, refl, sym, ap}
use Rattle.dp_model.specs.Environments.{fault_of}
use Rattle.dp_load.proofs.Environments.{same_environment}
use Rattle.dp_load.proofs.config.env_of.Goals as goal

pub returns-in-Ok-clause-ok : goal.returns-in-Ok-clause-ok
returns-in-Ok-clause-ok c =
    let e = same_environment c.args.setup.now c.deref-3.result.now c.min-tables.result c.deref-4.result.now c.deref-5.result.now c.deref-3.ensures.value
    (c.min-tables.ensures ∙ rw (c.len.ensures, c.args.setup.now.tables.ok.0) refl)
    (c.deref-4.ensures.value ∙ c.in_ok-rings.ensures ∙ rw c.deref.ensures.value refl)
    (c.deref-5.ensures.value ∙ c.in_ok-ports.ensures ∙ rw c.deref-2.ensures.value refl) in
    record { fits = ap fault_of e ∙ c.in-Ok.ensures.ok; same = c.in-Ok.ensures.same ∙ sym e }

pub returns-clause-err : goal.returns-clause-err
returns-clause-err c =
    let e = same_environment c.args.setup.now c.deref-3.result.now c.min-tables.result c.deref-4.result.now c.deref-5.result.now c.deref-3.ensures.value
    (c.min-tables.ensures ∙ rw (c.len.ensures, c.args.setup.now.tables.ok.0) refl)
    (c.deref-4.ensures.value ∙ c.in_ok-rings.ensures ∙ rw c.deref.ensures.value refl)
    (c.deref-5.ensures.value ∙ c.in_ok-ports.ensures ∙ rw c.deref-2.ensures.value refl) in
    ap fault_of e ∙ c.in-Err.ensures.err

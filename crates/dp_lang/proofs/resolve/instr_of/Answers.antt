-- `instr_of`: the instruction built from the operands spells the statement.
use Rattle.std.proofs.Common.{rules, ◌≡◌, Some, None, refl, sym, ◌∙◌, map}
use Rattle.dp_lang.specs.Fields.{label_in}
use Rattle.dp_lang.specs.Forms.{kinds_of, spelled}
use Rattle.dp_lang.specs.Reading.{target_in}
use Rattle.dp_lang.specs.Sources as view
use Rattle.dp_lang.proofs.Built.{numbered, kinds_end, labels_resolved, spells}
use Rattle.dp_lang.proofs.resolve.instr_of.Goals as goal

pub returns-in_err-label-clause-arguments : goal.returns-in_err-label-clause-arguments
returns-in_err-label-clause-arguments c =
    let s = c.args.statement.now in
    let target = target_in (view.source c.args.source.now) in
    let sliced : label_in target c.as_slice-arguments.result.now ≡ None = sym c.label_in.ensures ∙ c.in_err-label.was in
    let none : label_in target s.arguments.items ≡ None = rw c.as_slice-arguments.ensures.value at sliced in
    let gone : c.from_residual.result ≡ None = search rules in
    rw (labels_resolved target (kinds_of s.form) s.arguments.items s.fits (kinds_end s.form), none, gone) refl

pub returns-clause-arguments : goal.returns-clause-arguments
returns-clause-arguments c =
    let s = c.args.statement.now in
    let target = target_in (view.source c.args.source.now) in
    let l = c.in_ok-label.label in
    let sliced : label_in target c.as_slice-arguments.result.now ≡ Some l = sym c.label_in.ensures ∙ c.in_ok-label.was in
    let label : label_in target s.arguments.items ≡ Some l = rw c.as_slice-arguments.ensures.value at sliced in
    let made : spelled c.built.result ≡ record { form = s.form; arguments = map (numbered l) s.arguments.items } =
    rw (c.built.ensures, c.as_slice-arguments.ensures.value) (spells s.form l s.arguments.items s.fits) in
    rw (labels_resolved target (kinds_of s.form) s.arguments.items s.fits (kinds_end s.form), label, made) refl

-- `arguments_of`: the operands that were read are of the form's kinds.
use Rattle.std.proofs.Common.{rules, ◌≡◌, length, map, ◌∙◌, sym, Bor, List, ℕ}
use Rattle.std.proofs.lemmas.List.{length-map}
use Rattle.dp_lang.specs.Views.{argument}
use Rattle.dp_lang.proofs.Fits.{read_fits}
use Rattle.dp_lang.proofs.reader.arguments_of.Goals as goal

pub returns-clause-fits : goal.returns-clause-fits
returns-clause-fits c =
    let same : length c.args.kinds.now ≡ length c.in_ok-parts.parts.items = search rules in
    let seen : c.deref.result.now ≡ c.in_ok-parts.parts.items = search rules in
    read_fits c.args.kinds.now (map (λ part. part.now) c.in_ok-parts.parts.items) (λ v. map argument v.items) c.each_argument.result
    (same ∙ sym (length-map c.in_ok-parts.parts.items (λ (part : Bor (List ℕ)). part.now))) (rw seen at c.each_argument.ensures)

use Rattle.std.proofs.Common.{◌≡◌, map, sym, ap, ◌∙◌}
use Rattle.std.proofs.lemmas.Option.{same_Some}
use Rattle.std.proofs.lemmas.Slice.Eq.{bytes_eq-Decides}
use Rattle.dp_lang.specs.Forms.{form_of, word_of, spelled}
use Rattle.dp_lang.specs.Views.{numbered}
use Rattle.dp_lang.proofs.Spellings.{spelled_same}
use Rattle.dp_lang.proofs.StatementTexts.{form_of_word}
use Rattle.dp_lang.proofs.same.is_same.Goals as goal

pub returns-then-eq : goal.returns-then-eq
returns-then-eq c =
    let a = c.args.a.now in
    let b = c.args.b.now in
    let f = c.form_of.result in
    let g = c.form_of-2.result in
    let words : word_of f ≡ word_of g =
    sym c.word.ensures ∙ ((bytes_eq-Decides c.word.result.now c.word-2.result.now).0 (sym c.eq.ensures ∙ c.if-eq.true) ∙ c.word-2.ensures) in
    let forms : f ≡ g = same_Some f g (sym (form_of_word f) ∙ (ap form_of words ∙ form_of_word g)) in
    let of_a : map numbered c.as_slice.result.now ≡ (spelled a).arguments = ap (map numbered) c.as_slice.ensures ∙ c.arguments_of.ensures.spelled in
    let of_b : map numbered c.as_slice-then-eq.result.now ≡ (spelled b).arguments =
    ap (map numbered) c.as_slice-then-eq.ensures ∙ c.arguments_of-then-eq.ensures.spelled in (
      λ yes. spelled_same a b (sym c.form_of.ensures ∙ (forms ∙ c.form_of-2.ensures)) (sym of_a ∙ (c.same_arguments.ensures.0 yes ∙ of_b)),
      λ same. c.same_arguments.ensures.1 (of_a ∙ (ap (λ i. (spelled i).arguments) same ∙ sym of_b)),
    )

use Rattle.std.proofs.Common.{◌≡◌, Some, refl, sym, ap, ◌∙◌, arith}
use Rattle.std.proofs.lemmas.Option.{same_Some}
use borrow.Author.Count.{below_more}
use Rattle.std.specs.Prelude.{slice_get}
use Rattle.dp_lang.specs.Views.{numbered}
use Rattle.dp_lang.proofs.Spellings.{shown_at, shown_read, same_shown}
use Rattle.dp_lang.proofs.same.same_arguments.Goals as goal

pub returns-then-not-same_argument : goal.returns-then-not-same_argument
returns-then-not-same_argument c =
    let i = c.loop-i.i in
    let r = c.index-a-i.result in
    let s = c.index-b-i.result in (
      λ no. absurd cc,
      λ same.
          let of_a : shown_at c.args.a.now i ≡ Some (numbered r) =
          shown_read c.args.a.now i r (omega (arith, c.loop-i-test.true)) ∙ ap (λ x. Some (numbered x)) (sym c.index-a-i.is) in
          let of_b : shown_at c.args.b.now i ≡ Some (numbered s) =
          shown_read c.args.b.now i s (omega (arith, c.loop-i-test.true, c.loop-i.invariant.0)) ∙ ap (λ x. Some (numbered x)) (sym c.index-b-i.is) in
          let alike = c.same_argument.ensures.1 (same_Some (numbered r) (numbered s) (sym of_a ∙ (ap (λ xs. slice_get xs i) same ∙ of_b))) in
          absurd cc,
    )

pub loop-i-preserved : goal.loop-i-preserved
loop-i-preserved c =
    let i = c.loop-i.i in
    let a = c.args.a.now in
    let b = c.args.b.now in
    let r = c.index-a-i.result in
    let s = c.index-b-i.result in
    let alike : numbered r ≡ numbered s = c.same_argument.ensures.0 (rw (c.if-not-same_argument.false) refl) in
    let of_a : shown_at a i ≡ Some (numbered r) = shown_read a i r (omega (arith, c.loop-i-test.true)) ∙ ap (λ x. Some (numbered x)) (sym c.index-a-i.is) in
    let of_b : shown_at b i ≡ Some (numbered s) =
    shown_read b i s (omega (arith, c.loop-i-test.true, c.loop-i.invariant.0)) ∙ ap (λ x. Some (numbered x)) (sym c.index-b-i.is) in
    (c.loop-i.invariant.0, below_more (λ k. shown_at a k ≡ shown_at b k) i c.loop-i.invariant.1 (of_a ∙ (ap Some alike ∙ sym of_b)))

pub returns : goal.returns
returns c = (
  λ _. same_shown c.args.a.now c.args.b.now c.loop-i.invariant.0
      (λ k less. c.loop-i.invariant.1 k (omega (arith, less, c.loop-i.invariant.0, c.loop-i-test.false))),
  λ _. refl,
)

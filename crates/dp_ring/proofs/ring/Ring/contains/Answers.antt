-- The search looks at one entry at a time.
use Rattle.std.proofs.Common.{◌≡◌, suc, ◌+◌, eqb, inl, inr, drop, sym, ap, ◌∙◌, arith}
use Rattle.std.proofs.lemmas.Bool.{eq-eqb}
use Rattle.std.proofs.lemmas.Bool.Decides.{eqb_tells}
use Rattle.std.specs.List.{list_any}
use Rattle.dp_ring.proofs.Searching.{found_at, missed_at}
use Rattle.dp_ring.proofs.ring.Ring.contains.Goals as goal

pub returns-then-entry-value : goal.returns-then-entry-value
returns-then-entry-value c =
    let at = sym c.peek.ensures ∙ c.in-Some.is in
    sym (c.loop-k.invariant ∙ found_at c.args.self.now.entries c.loop-k.k c.in-Some.entry c.args.value at
    (eq-eqb c.in-Some.entry c.args.value c.if-entry-value.true))

pub loop-k-preserved : goal.loop-k-preserved
loop-k-preserved c =
    let at = sym c.peek.ensures ∙ c.in-Some.is in
    let one_more : suc c.loop-k.k ≡ c.loop-k.k + 1 = omega arith in
    c.loop-k.invariant ∙ (missed_at c.args.self.now.entries c.loop-k.k c.in-Some.entry c.args.value at
    (elim (eqb_tells c.in-Some.entry c.args.value) [ inl e ↦ absurd (c.if-entry-value.false e.1) | inr e ↦ e.0 ])
    ∙ ap (λ n. list_any (λ x. eqb x c.args.value) (drop n c.args.self.now.entries)) one_more)

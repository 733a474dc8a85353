-- The row of the label is passed on if it is live, and with it nothing else changes.
use Rattle.std.proofs.Common.{◌≡◌, ◌∙◌, ◌∷◌, [], arith}
use Rattle.std.proofs.lemmas.Grind.{common_steps}
use Rattle.std.proofs.lemmas.Option.{slice_get-get_or, get_or_from_slice_get}
use Rattle.dp_infer.proofs.Widened.{again_dead, again_live, again_one, again_two}
use Rattle.dp_infer.proofs.widening.pass_again.Goals as goal

pub leads_of-requires-clause-well_formed : goal.leads_of-requires-clause-well_formed
leads_of-requires-clause-well_formed c = grind (arith, common_steps)

pub returns-then-not-row-clause-passed : goal.returns-then-not-row-clause-passed
returns-then-not-row-clause-passed c =
    λ i _. again_dead c.args.program.now c.args.env.now c.args.slow c.args.label i c.args.rows.now _
    (slice_get-get_or c.args.rows.now c.args.label _ c.requires.in_range) (rw c.from.ensures at c.if-not-row.true)

pub returns-in-Ends-clause-passed : goal.returns-in-Ends-clause-passed
returns-in-Ends-clause-passed c =
    λ i at_i. let is : c.index-program-from.result ≡ i =
    c.index-program-from.is ∙ rw c.from-2.ensures (get_or_from_slice_get c.args.program.now c.args.label i _ at_i) in
    again_live c.args.program.now c.args.env.now c.args.slow c.args.label i c.args.rows.now _ []
    (slice_get-get_or c.args.rows.now c.args.label _ c.requires.in_range) (rw c.from.ensures at c.if-not-row.false)
    (rw (c.from.ensures, is) at c.in-Ends.ensures)

pub returns-in-One-clause-passed : goal.returns-in-One-clause-passed
returns-in-One-clause-passed c =
    λ i at_i. let is : c.index-program-from.result ≡ i =
    c.index-program-from.is ∙ rw c.from-2.ensures (get_or_from_slice_get c.args.program.now c.args.label i _ at_i) in
    again_live c.args.program.now c.args.env.now c.args.slow c.args.label i c.args.rows.now _ (c.in-One.lead ∷ [])
    (slice_get-get_or c.args.rows.now c.args.label _ c.requires.in_range) (rw c.from.ensures at c.if-not-row.false)
    (rw (c.from.ensures, is) at c.in-One.ensures)
    ∙ again_one c.args.program.now c.args.label c.args.slow c.in-One.lead c.args.rows.now _ c.reach_again.ensures.reached

pub returns-in-Two-clause-passed : goal.returns-in-Two-clause-passed
returns-in-Two-clause-passed c =
    λ i at_i. let is : c.index-program-from.result ≡ i =
    c.index-program-from.is ∙ rw c.from-2.ensures (get_or_from_slice_get c.args.program.now c.args.label i _ at_i) in
    again_live c.args.program.now c.args.env.now c.args.slow c.args.label i c.args.rows.now _ (c.in-Two.lead ∷ c.in-Two.other ∷ [])
    (slice_get-get_or c.args.rows.now c.args.label _ c.requires.in_range) (rw c.from.ensures at c.if-not-row.false)
    (rw (c.from.ensures, is) at c.in-Two.ensures)
    ∙ again_two c.args.program.now c.args.label c.args.slow c.in-Two.lead c.in-Two.other c.args.rows.now _ _ c.reach_again-one.ensures.reached
    c.reach_again-two.ensures.reached

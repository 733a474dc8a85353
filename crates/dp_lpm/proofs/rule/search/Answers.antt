-- The rule at the index is the one, or there is none.
use Rattle.std.proofs.Common.{arith}
use Rattle.dp_lpm.proofs.Order.{found_parts, missing_parts}
use Rattle.dp_lpm.proofs.rule.search.Goals.{else-index-rules-via-then-index-rules+then-rules-index+else-rules-index-2}
use Rattle.dp_lpm.proofs.rule.search.Goals.{else-index-rules-via-then-index-rules+else-rules-index, else-index-rules-via-else-index-rules}
use Rattle.dp_lpm.proofs.rule.search.Goals as goal

pub returns-then-rules-index-2-clause-found : goal.returns-then-rules-index-2-clause-found
returns-then-rules-index-2-clause-found c =
    found_parts c.args.rules.now c.args.depth c.args.prefix c.rules_before-index.result c.requires c.rules_before-index.ensures c.if-index-rules.true
    c.if-rules-index-2.true c.if-rules-index.true

pub returns-clause-missing : goal.returns-clause-missing
returns-clause-missing c = missing_parts c.args.rules.now c.args.depth c.args.prefix c.rules_before-index.result c.requires c.rules_before-index.ensures
    (λ there e. elim c.else-index-rules.branch [
      | else-index-rules-via-then-index-rules+then-rules-index+else-rules-index-2 w ↦ absurd
          (omega (arith, e, there))
      | else-index-rules-via-then-index-rules+else-rules-index w ↦ absurd (omega (arith, e, there))
      | else-index-rules-via-else-index-rules w ↦ absurd (omega (arith, there))
    ])

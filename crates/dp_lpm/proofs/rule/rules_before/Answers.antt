-- The rules that come before are those below the returned index.
use Rattle.std.proofs.Common.{arith, rules}
use Rattle.std.specs.Prelude.{nat_lt}
use Rattle.std.proofs.lemmas.Bool.{ltb-true, ltb-false}
use Rattle.std.proofs.lemmas.List.Sorted.{IsPartitionPoint-from_clause, IsPartitionedBy-ltb, IsNonDecreasingBy-from_default}
use Rattle.dp_lpm.specs.Rules.{rank, rank_of}
use Rattle.dp_lpm.proofs.Order.{never_falls}
use Rattle.dp_lpm.proofs.rule.rules_before.Goals as goal

pub returns : goal.returns
returns c =
    let key = rank c.args.depth c.args.prefix in
    let parted = IsPartitionedBy-ltb rank_of c.args.rules.now key
    (IsNonDecreasingBy-from_default rank_of c.args.rules.now (record { prefix = 0; depth = 0; hop = 0 }) (never_falls c.args.rules.now c.requires)) in
    let point = IsPartitionPoint-from_clause (λ r. nat_lt (rank_of r) key) _ _ c.partition_point.ensures.partitioned parted (λ a r q k. search rules) in
    record {
      bound = c.partition_point.ensures.bound;
      below = λ k lt. ltb-true _ _ (point.0 k _ (omega arith) lt);
      above = λ k le there. ltb-false _ _ (point.1 k _ le there);
    }

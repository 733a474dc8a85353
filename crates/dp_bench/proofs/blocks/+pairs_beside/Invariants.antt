use Rattle.dp_bench.proofs.blocks.+pairs_beside.Given as goal

abbrev pub decreases-pairs_beside : goal.decreases-pairs_beside
decreases-pairs_beside l = l.others

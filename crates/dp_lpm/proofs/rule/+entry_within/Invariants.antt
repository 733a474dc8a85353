-- Each call looks one depth lower.
use Rattle.dp_lpm.proofs.rule.+entry_within.Given as goal

-- proposed from what the function passes where it calls itself
abbrev pub decreases-entry_within : goal.decreases-entry_within
decreases-entry_within l = l.depth

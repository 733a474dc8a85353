-- Rounding a division up.
use Rattle.std.proofs.Common.{◌≡◌, ap, arith, ◌∙◌}
use Rattle.std.specs.Prelude.{max}
use Rattle.dp_mbuf.proofs.Parting.{parts_are}
use Rattle.dp_mbuf.proofs.mbufs.count_needed.Goals as goal

pub returns : goal.returns
returns c =
    let turned : c.max.result ≡ max 1 c.div_ceil.result = omega (arith, c.max.ensures) in
    turned ∙ (ap (max 1) (rw c.from-full.ensures at c.div_ceil.ensures) ∙ parts_are c.args.len c.args.full c.requires)

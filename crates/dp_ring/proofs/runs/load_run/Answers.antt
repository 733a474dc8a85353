-- The bytes of a number lie in the part that is read.
use Rattle.std.proofs.Common.{◌+◌, ◌*◌, ◌-◌, length, take, drop, ap, ◌∙◌, sym, arith}
use Rattle.byteorder.specs.Endian.{little_number}
use Rattle.dp_region.specs.Region.{number_at}
use Rattle.dp_ring.proofs.Writing.{number_in_part}
use Rattle.dp_ring.proofs.runs.load_run.Goals as goal

pub returns : goal.returns
returns c k less =
    let bytes = c.args.zone.now.bytes in
    let at = 4 * c.args.slot in
    let m = 4 * length c.args.numbers.now in
    ap (λ p. number_at bytes p 4) (omega arith)
    ∙ (number_in_part bytes at m (4 * k) (omega (arith, less))
    ∙ (ap (λ part. little_number 4 (drop (4 * k) part)) (ap (λ n. take n (drop at bytes)) (omega arith)
    ∙ ap (λ b. take (at + m - at) (drop at b)) (sym c.bytes.ensures))
    ∙ sym (c.read_u32_into.ensures k less)))

-- `write_front`: what a write takes comes after what was taken before.
use Rattle.std.proofs.Common.{◌-◌, drop, length, length-take, sym, subst, arith}
use Rattle.std.specs.Io.KnownBytes.{Appends}
use Rattle.std.proofs.KnownBytes.{Appends-trans}
use Rattle.dp_pcap.proofs.Pieces.{take_more-rest}
use Rattle.dp_pcap.proofs.buffered.write_front.Goals as goal

pub loop-written-preserved : goal.loop-written-preserved
loop-written-preserved g c =
    let (_, so_far) = c.loop-written.invariant in
    let rest = length-take (length c.args.bytes.now - c.loop-written.written) (drop c.loop-written.written c.args.bytes.now) in (
      omega (arith, c.in-Ok.ensures.bound, rest),
      subst (Appends _ _) (sym (take_more-rest c.loop-written.written c.in-Ok.n c.args.bytes.now)) (Appends-trans _ _ _ _ _ so_far c.in-Ok.ensures.ok),
    )

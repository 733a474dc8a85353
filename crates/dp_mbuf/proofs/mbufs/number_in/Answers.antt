-- The number is read from the buffer's data room.
use Rattle.std.proofs.Common.{◌+◌, ap, arith, ◌∙◌}
use Rattle.std.specs.Prelude.{slice_range}
use Rattle.dp_model.specs.Arithmetic.{bytes_in, spelled}
use Rattle.dp_model.specs.Buffers.{bytes_of}
use Rattle.dp_mbuf.specs.Objects.{buffers_of}
use Rattle.dp_mbuf.proofs.Bytes.{rest_long, rest_take}
use Rattle.dp_mbuf.proofs.mbufs.number_in.Goals as goal

pub read_number-requires : goal.read_number-requires
read_number-requires c =
    rest_long _ (c.from.result + c.args.more) (bytes_in c.args.width) (omega (arith, c.requires.fits, c.from.ensures, c.bytes.ensures.room))

pub returns : goal.returns
returns c =
    let start = c.from.result + c.args.more in
    let w = bytes_in c.args.width in
    c.read_number.ensures
    ∙ (ap spelled (rest_take c.bytes.result.now start w)
    ∙ (ap (λ r. spelled (slice_range r start (start + w))) c.bytes.ensures.value
    ∙ ap (λ n. spelled (slice_range (bytes_of (buffers_of c.args.objects.now) c.args.b) (n + c.args.more) (n + c.args.more + w))) c.from.ensures))

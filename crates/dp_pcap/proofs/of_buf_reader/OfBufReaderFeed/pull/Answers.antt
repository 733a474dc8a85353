-- `pull` of a buffered reader: what is copied from the buffer comes next.
use Rattle.std.proofs.Common.{◌≡◌, ℕ, ◌≤◌, Bool, false, List, Option, None, Some, if◌then◌else◌, arith, length, take, drop, ap, ◌∙◌}
use Rattle.std.proofs.Math.Seq.{take-length}
use Rattle.std.specs.Prelude.{IfSome}
use Rattle.std.specs.Io.KnownBytes.{Consumes, prepend_known}
use Rattle.dp_pcap.proofs.AtHand.{passes}
use Rattle.dp_pcap.proofs.of_buf_reader.OfBufReaderFeed.pull.Goals as goal

-- what a buffer gives is the front of the bytes that are left
held-Consumes : (is_empty : Bool) (known new : Option (List ℕ)) (held given : List ℕ) {n : ℕ} → n ≤ length held → given ≡ take n held → length given ≡ n
    → IfSome (if is_empty then None else prepend_known held known) (λ xs. IfSome (Some (length held)) (λ most. length given ≤ most) →
    new ≡ Some (drop (length given) xs))
    → Consumes (if is_empty then None else prepend_known held known) new (take (length given) given)
held-Consumes is_empty known new held given fits same len drops =
    let front : take (length given) held ≡ take (length given) given = rw (take-length, len, same) in
    rw (← front) (passes is_empty false known new held (omega arith) drops)

pub returns-clause-bytes : goal.returns-clause-bytes
returns-clause-bytes g c = (
  held-Consumes _ _ _ _ _ (omega (arith, c.if-held-buf.false, ap length c.buffer-held.ensures)) (c.copy_from_slice.ensures.after
      ∙ ap (take (length c.args.buf.now)) c.buffer-held.ensures) c.copy_from_slice.ensures.len c.consume.ensures.bytes,
  λ none some. absurd (omega (arith, none, some)),
)

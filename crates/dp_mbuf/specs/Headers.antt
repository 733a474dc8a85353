-- The header in the first bytes of each object.
use Rattle.std.specs.Prelude.{ℕ, ◌+◌, ◌*◌, ◌/◌, ◌%◌, List, [], ◌∷◌, slice_index}
use Rattle.dp_model.specs.Buffers.{Number, overwritten}
use Rattle.dp_mbuf.specs.declared.limits.TheConstants.{SEGS, REFS, OFFSET, LEN, NEXT, LAST, BUFFER, WORDS}
use Rattle.dp_mbuf.specs.declared.header.Header.{Header}

-- two bytes as a little-endian number
abbrev pub word : List ℕ → ℕ → ℕ
word bytes at = slice_index bytes at + slice_index bytes (at + 1) * 256

-- four bytes as a number: index and pool, so they are the packet's handle
abbrev pub mbuf_number : List ℕ → ℕ → Number
mbuf_number bytes at = record { pool = word bytes (at + 2); index = word bytes at }

-- the header in an object's first bytes
unfoldable pub header_of : List ℕ → Header
header_of o =
    record {
      segs = word o SEGS;
      refs = word o REFS + word o (REFS + 2) * WORDS;
      offset = word o OFFSET;
      len = word o LEN;
      next = mbuf_number o NEXT;
      last = mbuf_number o LAST;
      buffer = mbuf_number o BUFFER;
    }

-- the two bytes of a number, then more
abbrev pub then_word : ℕ → List ℕ → List ℕ
then_word x rest = x % 256 ∷ x / 256 ∷ rest

-- an object after the number of segments and the last mbuf are written into its header
abbrev pub with_segs_and_last : List ℕ → ℕ → Number → List ℕ
with_segs_and_last o segs last = overwritten (overwritten o SEGS (then_word segs [])) LAST (then_word last.index (then_word last.pool []))

-- the bytes of a header
abbrev pub header_bytes : Header → List ℕ
header_bytes h =
    then_word h.segs (then_word (h.refs % WORDS) (then_word (h.refs / WORDS)
    (then_word h.offset (then_word h.len (then_word h.next.index (then_word h.next.pool
    (then_word h.last.index (then_word h.last.pool (then_word h.buffer.index (then_word h.buffer.pool []))))))))))

-- an object with a header's bytes over its first ones, and then other bytes at an offset
abbrev pub with_both : List ℕ → List ℕ → ℕ → List ℕ → List ℕ
with_both object header at bytes = overwritten (overwritten object 0 header) at bytes

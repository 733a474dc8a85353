-- The number of whole records in the bytes of a capture that passed.
use Rattle.std.specs.Prelude.{◌≡◌, ℕ, zero, suc, ◌+◌, ◌-◌, ◌<◌, List, [], ◌++◌, length, ◌⊎◌}
use Rattle.dp_pcap.specs.declared.byte_order.Order.{Order}
use Rattle.dp_pcap.specs.declared.format.TheConstants.{HEADER_SIZE, HEAD_SIZE}
use Rattle.dp_pcap.specs.Capture.{captured}

-- a count as contracts see it: the byte order; the number of whole pieces, the header and then records; how many bytes of the next are to come; and
-- the bytes of the next record's head that came
pub record Counted : Type 0 where
  pub order : Order
  pub pieces : ℕ
  pub left : ℕ
  pub head : List ℕ

-- the count before the first byte
abbrev pub none_yet : Order → Counted
none_yet order = record { order = order; pieces = 0; left = HEADER_SIZE; head = [] }

-- the records among the whole pieces
abbrev pub records_in : Counted → ℕ
records_in c = c.pieces - 1

-- a head, and after it the captured bytes
abbrev pub IsRecord : Order → List ℕ → List ℕ → Type 0
IsRecord order head body = (length head ≡ HEAD_SIZE) × (length body ≡ captured order head)

-- n whole pieces: a header, and then records
abbrev pub ArePieces : Order → ℕ → List ℕ → Type 0
ArePieces order zero bytes = bytes ≡ []
ArePieces order (suc zero) bytes = length bytes ≡ HEADER_SIZE
ArePieces order (suc (suc n)) bytes =
    (front : List ℕ) × (head : List ℕ) × (body : List ℕ) × ArePieces order (suc n) front × IsRecord order head body × (bytes ≡ front ++ (head ++ body))

-- a part of a record's bytes, of which this many are to come
abbrev pub IsInside : Order → ℕ → List ℕ → Type 0
IsInside order left part =
    (head : List ℕ) × (body : List ℕ) × (length head ≡ HEAD_SIZE) × (length body + left ≡ captured order head) × (part ≡ head ++ body)

-- a part of the piece after n others: of the header, of a record's head, or of the bytes after it
abbrev pub IsPart : Order → ℕ → ℕ → List ℕ → List ℕ → Type 0
IsPart order zero left head part = (head ≡ []) × (0 < left) × (length part + left ≡ HEADER_SIZE)
IsPart order (suc n) left head part =
    ((left ≡ 0) × (length head < HEAD_SIZE) × (part ≡ head)) ⊎ ((0 < left) × (head ≡ []) × IsInside order left part)

-- the count after these bytes: the whole pieces, and a part of the next
pub record IsAfter (c : Counted) (bytes : List ℕ) : Type 0 where
  pub whole : List ℕ
  pub part : List ℕ
  pub split : bytes ≡ whole ++ part
  pub pieces : ArePieces c.order c.pieces whole
  pub is_part : IsPart c.order c.pieces c.left c.head part

-- Internal: a count after whole pieces and nothing else
abbrev pub none_left : Order → ℕ → Counted
none_left order n = record { order = order; pieces = n; left = 0; head = [] }

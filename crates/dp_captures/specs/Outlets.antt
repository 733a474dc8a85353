-- Where the bytes go that an output is given.
use Rattle.std.specs.Prelude.{◌≡◌, ℕ, ◌<◌, ◌^◌, ◌++◌, List, length, Option, Some, None, ⊤}
use Rattle.std.specs.List.{flat_map}
use Rattle.dp_pcap.specs.declared.byte_order.Order.TheVariants.{Little}
use Rattle.dp_pcap.specs.Counting.{Counted, IsAfter, records_in}

-- pieces, concatenated
abbrev pub joined : List (List ℕ) → List ℕ
joined pieces = flat_map (λ piece. piece) pieces

-- a count of the records that are whole in these bytes, of which there are fewer than 2^64
abbrev pub Counts : Counted → List ℕ → Type 0
Counts counted bytes = length bytes < 2 ^ 64 → (counted.order ≡ Little) × IsAfter counted bytes

-- this number of records are whole in these bytes, if they are known
abbrev pub HasWhole : ℕ → Option (List ℕ) → Type 0
HasWhole whole None = ⊤
HasWhole whole (Some bytes) = ∥ ((counted : Counted) × Counts counted bytes × (records_in counted ≡ whole)) ∥₁

-- known bytes end in others, of which a file took those before
abbrev pub TookFront : Option (List ℕ) → Option (List ℕ) → Type 0
TookFront None taken = ⊤
TookFront (Some given) None = ⊥
TookFront (Some given) (Some taken) = (rest : List ℕ) × (given ≡ taken ++ rest)

-- What a contract sees of a region and of a block.
use Rattle.std.specs.Prelude.{◌≡◌, refl, ℕ, ◌+◌, ◌%◌, ◌≤◌, List, length}
use Rattle.std.specs.Coded.{Coded, code_by, coded×, coded_list, coded_ℕ}
use Rattle.byteorder.specs.Endian.{little_number, little_bytes}
use Rattle.dp_region.specs.Spans.{Span, IsUnlent, bytes_in, with_bytes, refilled, overlaid}
use Rattle.dp_region.specs.Ownership.{Home, home_code}

-- a region: its identity, its bytes, and the spans that are lent. A lent span shows the bytes that it had when it was lent
pub record RegionView : Type 0 where
  pub home : Home
  pub bytes : List ℕ
  pub lent : List Span

-- it is stored as the tuple of its fields
abbrev pub region_code : Coded RegionView
region_code =
    code_by (Home × (List ℕ × List Span)) (coded× home_code (coded× (coded_list coded_ℕ) (coded_list (coded× coded_ℕ coded_ℕ))))
    (λ r. (r.home, (r.bytes, r.lent))) (λ p. record { home = p.0; bytes = p.1.0; lent = p.1.1 }) (λ _. refl)

-- a block: its region, its offset there, and its bytes
pub record BlockView : Type 0 where
  pub home : Home
  pub offset : ℕ
  pub bytes : List ℕ

-- it is stored as the tuple of its fields
abbrev pub block_code : Coded BlockView
block_code =
    code_by (Home × (ℕ × List ℕ)) (coded× home_code (coded× coded_ℕ (coded_list coded_ℕ)))
    (λ b. (b.home, (b.offset, b.bytes))) (λ p. record { home = p.0; offset = p.1.0; bytes = p.1.1 }) (λ _. refl)

-- the bytes of a cache line. The size of a region is a multiple of it
abbrev pub cache_line : ℕ
cache_line = 64

-- the sizes of the smallest region and of the largest
abbrev pub min_region : ℕ
min_region = 4096

abbrev pub max_region : ℕ
max_region = 1073741824

-- a size that a region may have
abbrev pub IsRegionSize : ℕ → Type 0
IsRegionSize n = (min_region ≤ n) × (n ≤ max_region) × (n % cache_line ≡ 0)

-- the n bytes at p are in the region, and none of them is lent
abbrev pub IsFree : RegionView → ℕ → ℕ → Type 0
IsFree r p n = (p + n ≤ length r.bytes) × IsUnlent r.lent p n

-- the number in the n bytes at p, little-endian
abbrev pub number_at : List ℕ → ℕ → ℕ → ℕ
number_at xs p n = little_number n (bytes_in xs p n)

-- xs after the number x is written into the n bytes at p
abbrev pub with_number : List ℕ → ℕ → ℕ → ℕ → List ℕ
with_number xs p n x = with_bytes xs p (little_bytes n x)

-- the span of a block
abbrev pub span_of : BlockView → Span
span_of b = (b.offset, length b.bytes)

-- b with the bytes ws. A longer ws is cut, and a shorter one keeps the rest of b's bytes
abbrev pub with_content : BlockView → List ℕ → BlockView
with_content b ws = record b { bytes = refilled b.bytes ws }

-- b with ws written over its bytes at an offset
abbrev pub with_part : ℕ → BlockView → List ℕ → BlockView
with_part at b ws = record b { bytes = overlaid b.bytes at ws }

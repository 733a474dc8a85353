-- Who owns which memory: runs, cells and tickets.
use Rattle.std.specs.Prelude.{refl, ℕ, ◌+◌, Bool, true, false, not, List, [], ◌∷◌, length}
use Rattle.std.specs.Coded.{Coded, code_by, coded×, coded_ℕ}
use mathlib.Core.Option.{Option, none, some}
use base.Algebra.{Algebra}
use base.Algebras.{maybe, each}
use base.Fraction.{full_share}
use base.Fml.{Lft, Fml, ftrue, fsep, feq, fown}
use types.Keyed.{token}
use denote.Builtin.{u8}
use denote.Array.{Array}
use denote.Memory.{part_at}
use denote.RawPtr.{Ptr, block_ptr, coded_ptr, lies_at}
use denote.Sharing.{nothing, beside}
use denote.Struct.Lending.{lent_at}
use Rattle.dp_region.specs.Spans.{Span, is_span, listed, is_lent}

-- an address and a length: where a block's bytes are
pub record Extent : Type 0 where
  pub ptr : Ptr
  pub len : ℕ

-- it is stored as the pair of its fields
abbrev pub extent_code : Coded Extent
extent_code = code_by (Ptr × ℕ) (coded× coded_ptr coded_ℕ) (λ e. (e.ptr, e.len)) (λ p. record { ptr = p.0; len = p.1 }) (λ _. refl)

-- the bytes xs lie at p
abbrev pub run_owns : Ptr → List ℕ → Fml
run_owns p xs = lies_at (Array u8 (length xs)) full_share p xs

-- the bytes xs fill e
abbrev pub filled_owns : Extent → List ℕ → Fml
filled_owns e xs = fsep (feq ℕ (length xs) e.len) (run_owns e.ptr xs)

-- the identity of a region: where its bytes begin, and the name of the rights to give its parts back
pub record Home : Type 0 where
  pub block : ℕ
  pub start : ℕ
  pub rights : ℕ

-- it is stored as the tuple of its fields
abbrev pub home_code : Coded Home
home_code = code_by (ℕ × (ℕ × ℕ)) (coded× coded_ℕ (coded× coded_ℕ coded_ℕ)) (λ h. (h.block, (h.start, h.rights)))
    (λ p. record { block = p.0; start = p.1.0; rights = p.1.1 }) (λ _. refl)

-- the address of the byte at offset k
abbrev pub ptr_at : Home → ℕ → Ptr
ptr_at h k = block_ptr h.block (h.start + k)

-- one right for each span, which has one owner
abbrev pub Rights : Algebra
Rights = each (coded× coded_ℕ coded_ℕ) (maybe token)

abbrev pub right_if : Bool → Option (Unit {0})
right_if true = some tt
right_if false = none

-- the right to give r back
abbrev pub ticket : Home → Span → Fml
ticket h r = fown Rights h.rights (λ q. right_if (is_span q r))

-- the rights of all spans that are not lent
abbrev pub tickets_but : Home → List Span → Fml
tickets_but h ls = fown Rights h.rights (λ q. right_if (not (listed q ls)))

-- P, if the test is false
abbrev pub unless : Bool → Fml → Fml
unless true P = ftrue
unless false P = P

abbrev pub shared_unless : Bool → (Lft → Fml) → Lft → Fml
shared_unless true t = nothing
shared_unless false t = t

module _ (ls : List Span) (b : ℕ) where
  -- the bytes of xs that are not lent. xs lies at b, o, which is the offset k of the region
  abbrev pub unlent : ℕ → ℕ → List ℕ → Fml
  unlent o k [] = ftrue
  unlent o k (x ∷ xs) = fsep (unless (is_lent ls k) (part_at u8 full_share x b o)) (unlent (o + 1) (k + 1) xs)

  -- what a shared reference to them holds
  abbrev pub unlent_shared : ℕ → ℕ → List ℕ → Lft → Fml
  unlent_shared o k [] = nothing
  unlent_shared o k (x ∷ xs) = beside (shared_unless (is_lent ls k) (lent_at u8 (block_ptr b o) x)) (unlent_shared (o + 1) (k + 1) xs)

-- what a `Cells` owns
abbrev pub cells_own : Home → List Span → List ℕ → Fml
cells_own h ls xs = fsep (unlent ls h.block h.start 0 xs) (tickets_but h ls)

-- what a shared reference to a `Cells` holds
abbrev pub cells_shared : Home → List Span → List ℕ → Lft → Fml
cells_shared h ls xs = unlent_shared ls h.block h.start 0 xs

-- A shared reference to a `Cells` lends each byte that is not lent already. Assumes `Logic`.
use mathlib.Core.Bool.{Bool, true, false}
use mathlib.Core.List.{List, [], ◌∷◌}
use Prim.Native.Nat.{ℕ, ◌+◌}
use seplogic.Ra.Ura.{Ura}
use base.Fml.{Lft, ftrue}
use types.Logic.{Logic}
use denote.Builtin.{u8}
use denote.Memory.{part_at}
use base.Fraction.{full_share}
use denote.RawPtr.{block_ptr}
use denote.Sharing.{ShrLaws}
use denote.SharingLaws.{nothing_shr_laws, beside_shr_laws}
use denote.Shares.{Shares}
use denote.Struct.Lending.{lent_at, lent_at_shr_laws, Lends, Lends-lies, Lends-nothing, Lends-first, Lends-both, of_Lends}
use Rattle.dp_region.specs.Spans.{Span, is_lent}
use Rattle.dp_region.specs.Ownership.{unless, shared_unless, unlent, unlent_shared, tickets_but}
use Rattle.dp_region.specs.contracts.raw.cells.Cells as C
use Rattle.dp_region.proofs.Rows.{byte_laws}
use Rattle.dp_region.proofs.raw.cells.Cells.TheLaw.Statement.{statement}

byte_shr : (t : Bool) (b o x : ℕ) → ShrLaws (shared_unless t (lent_at u8 (block_ptr b o) x))
byte_shr true b o x = nothing_shr_laws
byte_shr false b o x = lent_at_shr_laws u8 byte_laws.shr_laws (block_ptr b o) x

bytes_shr : (ls : List Span) (b o k : ℕ) (xs : List ℕ) → ShrLaws (unlent_shared ls b o k xs)
bytes_shr ls b o k [] = nothing_shr_laws
bytes_shr ls b o k (x ∷ xs) =
    beside_shr_laws (shared_unless (is_lent ls k) (lent_at u8 (block_ptr b o) x)) (unlent_shared ls b (o + 1) (k + 1) xs) (byte_shr (is_lent ls k) b o x)
    (bytes_shr ls b (o + 1) (k + 1) xs)

module _ {M : Type 1} {𝓤 : Ura M} (𝓛 : Logic 𝓤) (l : Lft) (s : Shares 𝓛 u8 l) where
  Lends-byte : (t : Bool) (b o x : ℕ) → Lends 𝓛 (unless t (part_at u8 full_share x b o)) (shared_unless t (lent_at u8 (block_ptr b o) x)) l
  Lends-byte true b o x = Lends-nothing 𝓛 ftrue l
  Lends-byte false b o x = Lends-lies 𝓛 u8 l (block_ptr b o) x (s x)

  Lends-bytes : (ls : List Span) (b o k : ℕ) (xs : List ℕ) → Lends 𝓛 (unlent ls b o k xs) (unlent_shared ls b o k xs) l
  Lends-bytes ls b o k [] = Lends-nothing 𝓛 ftrue l
  Lends-bytes ls b o k (x ∷ xs) =
      Lends-both 𝓛 (unless (is_lent ls k) (part_at u8 full_share x b o)) (unlent ls b (o + 1) (k + 1) xs)
      (shared_unless (is_lent ls k) (lent_at u8 (block_ptr b o) x)) (unlent_shared ls b (o + 1) (k + 1) xs) l
      (Lends-byte (is_lent ls k) b o x) (Lends-bytes ls b (o + 1) (k + 1) xs)

pub shares : statement
shares = of_Lends C.struct C.the_codes C.the_heap C.the_lent (λ d p. bytes_shr d.lent d.home.block d.home.start 0 d.bytes) tt
    (λ M 𝓤 𝓛 d p.
    Lends-first 𝓛 (unlent d.lent d.home.block d.home.start 0 d.bytes) (tickets_but d.home d.lent) (unlent_shared d.lent d.home.block d.home.start 0 d.bytes)
    (C.the_row).lives
    (Lends-bytes 𝓛 (C.the_row).lives (byte_laws.shares 𝓛) d.lent d.home.block d.home.start 0 d.bytes))

-- A shared reference to each byte that is not lent gives a slice of any span that is not lent. Assumes `Logic`.
use Rattle.std.proofs.Common.{◌≡◌, ℕ, zero, suc, ◌+◌, Bool, List, [], ◌∷◌, refl, arith}
use lib.ListN.{take, drop}
use seplogic.Ra.Ura.{Ura}
use base.Logic.{SProp, ent}
use contract.Conj.{top}
use base.Fml.{Lft, Fml}
use types.Logic.{Logic, sem}
use types.Kit.{‵, ◌$◌, ◌∵◌, !, qed, by, use1, drop as let_go, fsplit, frame, rewrite, done}
use denote.Builtin.{u8}
use denote.RawPtr.{block_ptr}
use denote.Slice.{elements_shared}
use denote.Struct.Lending.{lent_at}
use Rattle.dp_region.specs.Spans.{Span, is_lent, IsUnlent}
use Rattle.dp_region.specs.Ownership.{shared_unless, unlent_shared}

module _ {M : Type 1} {𝓤 : Ura M} (𝓛 : Logic 𝓤) (ls : List Span) (b : ℕ) (κ : Lft) where
  abbrev ◌⊢◌ : SProp 𝓤 → SProp 𝓤 → Type 1
  P ⊢ Q = ent 𝓤 P Q

  abbrev ⟦◌⟧ : Fml → SProp 𝓤
  ⟦ P ⟧ = sem 𝓛 P

  infix 26 ◌⊢◌
  skip : (n : ℕ) (xs : List ℕ) (o k p j : ℕ) → p ≡ o + n → j ≡ k + n → ⟦ unlent_shared ls b o k xs κ ⟧ ⊢ ⟦ unlent_shared ls b p j (drop n xs) κ ⟧
  skip zero xs o k p j e f =
      let e' : o ≡ p = omega arith in let f' : k ≡ j = omega arith in
      qed 𝓛 (‵ (unlent_shared ls b o k xs κ) ∷ []) ∵ rewrite ! 0 (λ (z : ℕ). ‵ (unlent_shared ls b z k xs κ)) e' refl $ rewrite ! 0
      (λ (z : ℕ). ‵ (unlent_shared ls b p z xs κ)) f' refl $ done !
  skip (suc n) [] o k p j e f = top 𝓤 _
  skip (suc n) (x ∷ xs) o k p j e f =
      qed 𝓛 (‵ (shared_unless (is_lent ls k) (lent_at u8 (block_ptr b o) x) κ) ∷ ‵ (unlent_shared ls b (o + 1) (k + 1) xs κ) ∷ []) ∵ let_go ! $ by !
      (skip n xs (o + 1) (k + 1) p j (omega arith) (omega arith))

  some : (n : ℕ) (xs : List ℕ) (o k : ℕ) → IsUnlent ls k n → ⟦ unlent_shared ls b o k xs κ ⟧ ⊢ ⟦ elements_shared u8 (take n xs) b o κ ⟧
  some zero xs o k free = top 𝓤 _
  some (suc n) [] o k free = top 𝓤 _
  some (suc n) (x ∷ xs) o k free =
      qed 𝓛 (‵ (shared_unless (is_lent ls k) (lent_at u8 (block_ptr b o) x) κ) ∷ ‵ (unlent_shared ls b (o + 1) (k + 1) xs κ) ∷ []) ∵
      rewrite ! 0 (λ (t : Bool). ‵ (shared_unless t (lent_at u8 (block_ptr b o) x) κ)) (free k (omega arith) (omega arith)) refl $ fsplit ! $ let_go ! $ frame
      ! $
      by ! (some n xs (o + 1) (k + 1) (λ j p q. free j (omega arith) (omega arith)))

  pub shown : (p n : ℕ) (xs : List ℕ) (o : ℕ) → IsUnlent ls p n → ⟦ unlent_shared ls b o 0 xs κ ⟧ ⊢ ⟦ elements_shared u8 (take n (drop p xs)) b (o + p) κ ⟧
  shown p n xs o free =
      qed 𝓛 (‵ (unlent_shared ls b o 0 xs κ) ∷ []) ∵ use1 𝓛 (‵ (unlent_shared ls b (o + p) p (drop p xs) κ)) (skip p xs o 0 (o + p) p refl (omega arith)) $ by
      ! (some n (drop p xs) (o + p) p free)

-- The bytes of a lodged vector are a run. Assumes `Logic`.
use Rattle.std.proofs.Common.{◌≡◌, ℕ, ◌+◌, ◌-◌, ◌*◌, ◌^◌, ◌<◌, ◌≤◌, List, [], ◌∷◌, length, true, refl, sym, arith}
use Rattle.std.proofs.lemmas.Bool.{ne_eqb, not_from_false}
use seplogic.Ra.Ura.{Ura}
use mir.Syntax.{w8, ty_int, ty_array}
use base.Fraction.{full_share}
use base.Fml.{Fml, ftrue, froom}
use base.Logic.{ent, never, id⊢}
use types.Logic.{Logic, sem}
use types.Kit.{‵, ◌$◌, ◌∵◌, !, qed, done, move, keep, use0, fsplit, fjoin, flt_i, rewrite}
use denote.Builtin.{u8}
use denote.Array.{Array}
use denote.RawPtr.{Ptr, block_ptr, lies_at, in_block, in_a_block}
use denote.Steps.{nothing}
use Rattle.std.specs.Allocator.{block_with_items}
use Rattle.std_alloc.specs.Vec.Ownership.{lodged, owns_if, has_block}
use Rattle.dp_region.specs.Ownership.{run_owns}

-- n bytes in a block that nobody frees
abbrev guest : Ptr → ℕ → ℕ → List ℕ → Fml
guest p n c xs = block_with_items (λ _ _. ftrue) u8 p n c xs

filled : (c : ℕ) → 0 < c → has_block c ≡ true
filled c some = not_from_false _ (ne_eqb c 0 (λ e. omega arith))

module _ {M : Type 1} {𝓤 : Ura M} (𝓛 : Logic 𝓤) (xs : List ℕ) (n : ℕ) (long : n ≡ length xs) where
  -- the run is the whole block: no room is left after it
  pub moves_in : (b o : ℕ) → 0 < n → n < 2 ^ 63 → ent 𝓤 (sem 𝓛 (run_owns (block_ptr b o) xs)) (sem 𝓛 (lodged u8 (block_ptr b o) n n xs))
  moves_in b o some small =
      let end = o + n * 1 in let none : 0 ≡ n - n = omega arith in
      qed 𝓛 (‵ (run_owns (block_ptr b o) xs) ∷ []) ∵
      rewrite ! 0 (λ m. ‵ (lies_at (Array u8 m) full_share (block_ptr b o) xs)) (sym long) refl $
      nothing ! $ use0 𝓛 (‵ (froom (ty_array (ty_int w8) 0) b end)) (𝓛.laws.room_nil (ty_int w8) b end) $ rewrite ! 0
      (λ m. ‵ (froom (ty_array (ty_int w8) m) b end)) none refl $
      fjoin ! $ move ! (1 ∷ 0 ∷ []) $ fjoin ! $
      rewrite ! 0 (λ t. ‵ (owns_if t (guest (block_ptr b o) n n xs))) (sym (filled n some)) refl $ flt_i ! (n * 1) (2 ^ 63) (omega arith) $ fjoin ! $ done !

  pub moves_out : (p : Ptr) (c : ℕ) → 0 < n → n ≤ c → ent 𝓤 (sem 𝓛 (lodged u8 p n c xs)) (sem 𝓛 (run_owns p xs))
  moves_out p c some room =
      qed 𝓛 (‵ (lodged u8 p n c xs) ∷ []) ∵ fsplit ! $ keep ! (1 ∷ []) $
      in_a_block ! p (λ q. in_block q (owns_if (has_block c) (guest q n c xs))) (id⊢ 𝓤 (never 𝓤)) (λ b o at.
      rewrite ! 0 (λ t. ‵ (owns_if t (guest (block_ptr b o) n c xs))) (filled c (omega arith)) refl $ fsplit ! $ keep ! (0 ∷ []) $
      rewrite ! 0 (λ m. ‵ (lies_at (Array u8 m) full_share (block_ptr b o) xs)) long refl $ rewrite ! 0 (λ q. ‵ (run_owns q xs)) (sym at) refl $ done !)

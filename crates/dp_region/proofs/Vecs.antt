-- A vector of bytes is a run and what waits for its return. Assumes `Logic`.
use Rattle.std.proofs.Common.{◌≡◌, ℕ, ◌<◌, List, [], ◌∷◌, true, refl, sym, arith, Vec}
use Rattle.std.proofs.lemmas.Bool.{ne_eqb, not_from_false}
use Rattle.std.proofs.lemmas.List.{with_items_is}
use seplogic.Ra.Ura.{Ura}
use mir.Val.{Val}
use base.Fraction.{full_share}
use base.Logic.{SProp, ent, sep, wand, never, id⊢}
use base.Fml.{Fml, fall, fwand}
use types.Logic.{Logic, sem}
use types.Kit.{‵, ◌$◌, ◌∵◌, !, qed, by, move, frame, each, assume, fsplit, fjoin, feq_l, rewrite}
use denote.Builtin.{u8}
use denote.Array.{Array}
use denote.RawPtr.{Ptr, block_ptr, lies_at, in_block, in_a_block}
use Rattle.std.specs.Allocator.{block_with_items}
use Rattle.std.specs.Vec.{with_items}
use Rattle.std.specs.declared.alloc.Global.{Global}
use Rattle.std.specs.contracts.impls.GlobalAllocator.TheImpl.{ghosts}
use Rattle.std_alloc.specs.Vec.Ownership.{owns_if, has_block}
use Rattle.dp_region.specs.Ownership.{Extent, run_owns, filled_owns}
use Rattle.dp_region.proofs.Rows.{Owner}

-- where its bytes lie
abbrev pub extent : Vec ℕ Global → Extent
extent v = record { ptr = v.ptr; len = v.len }

module _ {M : Type 1} {𝓤 : Ura M} (𝓛 : Logic 𝓤) (v : Vec ℕ Global) where
  abbrev ⟦◌⟧ : Fml → SProp 𝓤
  ⟦ P ⟧ = sem 𝓛 P

  -- the bytes xs in their block, with the room after them and the right to free it
  abbrev Block : Ptr → List ℕ → Fml
  Block p xs = block_with_items (ghosts.dealloc_token v.alloc) u8 p v.len v.cap xs

  held : 0 < v.len → has_block v.cap ≡ true
  held some = not_from_false _ (ne_eqb v.cap 0 (λ e. omega (arith, v.ok.1)))

  module _ (u : Val) (W : List ℕ → Fml) (becomes : (xs : List ℕ) → ent 𝓤 ⟦ Owner.own_val (with_items v xs) (u ∷ []) ⟧ ⟦ W xs ⟧) where
    pub parted : 0 < v.len → ent 𝓤 ⟦ Owner.own_val v (u ∷ []) ⟧ (sep 𝓤 ⟦ run_owns v.ptr v.items ⟧ ⟦ fall (List ℕ)
        (λ xs. fwand (filled_owns (extent v) xs) (W xs)) ⟧)
    parted some =
        let live = held some in
        qed 𝓛 (‵ (Owner.own_val v (u ∷ [])) ∷ []) ∵ fsplit ! $ move ! (1 ∷ []) $ fsplit ! $ move ! (1 ∷ []) $
        in_a_block ! v.ptr (λ p. in_block p (owns_if (has_block v.cap) (Block p v.items))) (id⊢ 𝓤 (never 𝓤)) (λ b o at.
        rewrite ! 0 (λ t. ‵ (owns_if t (Block (block_ptr b o) v.items))) live refl $ rewrite ! 0 (λ p. ‵ (Block p v.items)) (sym at) refl $ fsplit ! $
        rewrite ! 0 (λ n. ‵ (lies_at (Array u8 n) full_share v.ptr v.items)) v.ok.0 refl $ frame ! $
        -- [the room and the right to free; the bound; the fields]
        each ! (λ xs. wand 𝓤 ⟦ filled_owns (extent v) xs ⟧ ⟦ W xs ⟧) (λ xs. assume ! (‵ (filled_owns (extent v) xs)) $ fsplit ! $ feq_l ! (λ long.
        let same = with_items_is v xs long in
        rewrite ! 0 (λ n. ‵ (lies_at (Array u8 n) full_share v.ptr xs)) long refl $ fjoin ! $
        rewrite ! 0 (λ ys. ‵ (Block v.ptr ys)) (sym same) refl $
        rewrite ! 0 (λ p. ‵ (Block p (with_items v xs).items)) at refl $ rewrite ! 0 (λ t. ‵ (owns_if t (Block (block_ptr b o) (with_items v xs).items)))
        (sym live) refl $
        rewrite ! 0 (λ p. ‵ (in_block p (owns_if (has_block v.cap) (Block p (with_items v xs).items)))) (sym at) refl $
        move ! (1 ∷ 0 ∷ []) $ fjoin ! $ move ! (1 ∷ 0 ∷ []) $ fjoin ! $ by ! (becomes xs))))

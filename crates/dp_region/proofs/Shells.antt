-- Taking a vector's bytes out makes a shell; putting bytes in makes a vector. Assumes `Logic`.
use Rattle.std.proofs.Common.{◌≡◌, ℕ, ◌<◌, List, [], ◌∷◌, ◌++◌, length, refl, sym, ◌∙◌, subst, Vec}
use Rattle.std.proofs.lemmas.List.{with_items_is}
use seplogic.Ra.Ura.{Ura}
use mir.Val.{Val, vstruct, of_list}
use base.Logic.{ent, sep, all_e, apply∗}
use base.Fml.{Fml, ftrue, fsep, feq, fall, fwand}
use types.Logic.{Logic, sem}
use types.Kit.{Goal, Seq, Item, ‵, ◌⊛◌, ◌$◌, ◌∵◌, !, qed, done, move, drop, use1, use2, split, join, fsplit, fjoin, fpick, fpack, feq_l, feq_i}
use denote.Laws.{Typed}
use denote.Param.{layout}
use denote.Steps.{nothing}
use denote.Struct.Struct.{as_fields}
use Rattle.std.specs.Vec.{with_items}
use Rattle.std.specs.declared.alloc.Global.{Global}
use Rattle.dp_region.specs.Ownership.{Extent, run_owns, filled_owns}
use Rattle.dp_region.specs.contracts.raw.Shell as Shell
use Rattle.dp_region.specs.declared.raw.Shell.TheInside.{Inside}
use Rattle.dp_region.proofs.Rows.{Owner, owner_laws}
use Rattle.dp_region.proofs.Vecs.{extent, parted}
use Rattle.dp_region.proofs.Words.{Fits, told, put_together, taken_apart}

-- the machine value of a shell, from its vector's
abbrev pub cased : Val → Val
cased u = vstruct (of_list (u ∷ []))

-- what waits for its bytes
abbrev waits : Extent → List Val → Inside → Fml
waits e vs s = fsep (feq ℕ s.vec.len e.len) (fall (List ℕ) (λ xs. fwand (filled_owns e xs)
    (Shell.TheInside.the_row.own_val (record { vec = with_items s.vec xs }) vs)))

module _ {M : Type 1} {𝓤 : Ura M} (𝓛 : Logic 𝓤) (v : Vec ℕ Global) (u : Val) (fits : Fits (layout Owner) u) where
  abbrev Filled : List ℕ → Fml
  Filled xs = Shell.TheInside.the_row.own_val (record { vec = with_items v xs }) (cased u ∷ [])

  pub shelled : 0 < v.len → ent 𝓤 (sem 𝓛 (Owner.own_val v (u ∷ []))) (sep 𝓤 (sem 𝓛 (run_owns v.ptr v.items))
      (sem 𝓛 (Shell.the_row.own_val (extent v) (cased u ∷ []))))
  shelled some =
      let e = extent v in
      let becomes : (xs : List ℕ) → ent 𝓤 (sem 𝓛 (Owner.own_val (with_items v xs) (u ∷ []))) (sem 𝓛 (Filled xs)) =
      λ xs. qed 𝓛 (‵ (Owner.own_val (with_items v xs) (u ∷ [])) ∷ []) ∵ nothing ! $ move ! (1 ∷ 0 ∷ []) $ fjoin ! $ put_together ! (Owner ∷ [])
      (with_items v xs, tt) (u ∷ [], tt) $ done ! in
      qed 𝓛 (‵ (Owner.own_val v (u ∷ [])) ∷ []) ∵
      use1 𝓛 (‵ (run_owns v.ptr v.items) ⊛ ‵ (fall (List ℕ) (λ xs. fwand (filled_owns e xs) (Filled xs)))) (parted 𝓛 v u Filled becomes some) $ split ! $ move
      ! (1 ∷ []) $
      feq_i ! ℕ v.len e.len refl $ fjoin ! $ fpack ! Inside (waits e (cased u ∷ [])) (record { vec = v }) $
      nothing ! $ fpack ! (Typed Shell.the_row.mir (cased u ∷ [])) (λ _. ftrue) (as_fields (layout Owner ∷ []) (u ∷ []) (fits, tt), tt) $ fjoin ! $
      move ! (1 ∷ 0 ∷ []) $ join ! $ done !

module _ {M : Type 1} {𝓤 : Ura M} {𝓛 : Logic 𝓤} {K : Type 0} {Γ : List (Item 𝓤)} {G : Goal 𝓤 𝓛.H} (t : K) where
  pub refilled : (e : Extent) (xs : List ℕ) (vs : List Val) → ((v : Vec ℕ Global) (u : Val) → (v.items ≡ xs) → vs ≡ cased u ∷ [] → Fits (layout Owner) u →
      Seq K 𝓛 (‵ (Owner.own_val v (u ∷ [])) ∷ Γ) G)
      → Seq K 𝓛 (‵ (Shell.the_row.own_val e vs) ∷ ‵ (filled_owns e xs) ∷ Γ) G
  refilled e xs vs rest =
      fsplit t $ drop t $ fpick t (λ s. fsplit t $ feq_l t (λ len.
      let Full = λ (ys : List ℕ). Shell.TheInside.the_row.own_val (record { vec = with_items s.vec ys }) vs in
      use1 𝓛 (‵ (fwand (filled_owns e xs) (Full xs))) (all_e 𝓤 (λ ys. sem 𝓛 (fwand (filled_owns e ys) (Full ys))) xs) $ move t (1 ∷ 0 ∷ []) $
      fsplit t $ feq_l t (λ long. feq_i t ℕ (length xs) e.len long $ fjoin t $
      use2 𝓛 (‵ (Full xs)) (apply∗ 𝓤 (sem 𝓛 (filled_owns e xs)) (sem 𝓛 (Full xs))) $
      taken_apart t (Owner ∷ []) (with_items s.vec xs, tt) vs (λ vss is.
      fsplit t $ move t (1 ∷ []) $ drop t $ told t Owner owner_laws (with_items s.vec xs) vss.0 (λ u same fits.
      rest (with_items s.vec xs) u (with_items_is s.vec xs (long ∙ sym len)) (subst (λ us. vs ≡ vstruct (of_list (us ++ [])) ∷ []) same is) fits)))))

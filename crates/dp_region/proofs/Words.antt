-- Machine values of the types; a struct as its fields and back. Assumes `Logic`.
use Rattle.std.proofs.Common.{◌≡◌, List, [], ◌∷◌, refl, subst}
use lib.Dec.{T}
use seplogic.Ra.Ura.{Ura}
use mir.Syntax.{Ty}
use mir.Val.{Val, vstruct, vnil, of_list, has_ty, WT}
use base.Fml.{Fml, fsep}
use types.Logic.{Logic}
use types.Kit.{Goal, Seq, Step, step, Item, ‵, ◌$◌, drop, rewrite, fsplit, fjoin, fpick, fpack, feq_l, feq_i}
use denote.Laws.{Is, Typed, shows}
use denote.Param.{layout}
use denote.Param.Laws.{Laws}
use denote.RattleType.{RattleType, Denots, Valss, flat, owns}
use denote.Steps.{nothing, peeks}
use denote.Struct.Struct.{Shape, Struct, within}

-- v is a value of the type τ
abbrev pub Fits : Ty → Val → Type 0
Fits τ v = T (has_ty τ v) × WT v

-- the one value that vs is
record Word (τ : Ty) (vs : List Val) : Type 0 where
  value : Val
  alone : vs ≡ value ∷ []
  fits : Fits τ value

word_of : (τ : Ty) (vs : List Val) → Typed (τ ∷ []) vs → Word τ vs
word_of τ [] typed = absurd typed
word_of τ (v ∷ []) typed = record { value = v; alone = refl; fits = typed.0 }
word_of τ (v ∷ w ∷ ws) typed = absurd typed.1

-- what a struct of these fields owns does not depend on its name
abbrev pub nameless : List RattleType → Shape
nameless Rs = record { name = []; args = []; types = []; fields = Rs }

abbrev pub of_fields : List RattleType → RattleType
of_fields Rs = Struct (nameless Rs)

-- one that has no field when the program runs
abbrev pub bare : Val
bare = vstruct vnil

module _ {M : Type 1} {𝓤 : Ura M} {𝓛 : Logic 𝓤} {K : Type 0} {Γ : List (Item 𝓤)} {G : Goal 𝓤 𝓛.H} (t : K) where
  -- what is owned is one machine value, of its type
  pub told : (R : RattleType) → Laws R → (x : R.Denot) (vs : List Val) →
      ((v : Val) → vs ≡ v ∷ [] → Fits (layout R) v → Seq K 𝓛 (‵ (R.own_val x (v ∷ [])) ∷ Γ) G) → Seq K 𝓛 (‵ (R.own_val x vs) ∷ Γ) G
  told R L x vs rest = peeks t R (Is R) (shows 𝓛 R) x vs (λ is.
      let w = word_of (layout R) vs (subst (λ τs. Typed τs vs) L.one ((L.lawful 𝓛).typed x vs is)) in
      rewrite t 0 (λ us. ‵ (R.own_val x us)) w.alone refl $ rest w.value w.alone w.fits)

  module _ (Rs : List RattleType) (xs : Denots Rs) where
    pub put_together : (vss : Valss Rs) → Step K 𝓛 (‵ ((of_fields Rs).own_val xs (vstruct (of_list (flat Rs vss)) ∷ [])) ∷ Γ) G (‵ (owns Rs xs vss) ∷ Γ) G
    put_together vss = step (λ rest.
        let word = vstruct (of_list (flat Rs vss)) ∷ [] in feq_i t (List Val) word word refl $ fjoin t $ fpack t (Valss Rs) (within (nameless Rs) xs word) vss
        $ rest)

    pub taken_apart : (vs : List Val) → ((vss : Valss Rs) → vs ≡ vstruct (of_list (flat Rs vss)) ∷ [] → Seq K 𝓛 (‵ (owns Rs xs vss) ∷ Γ) G) →
        Seq K 𝓛 (‵ ((of_fields Rs).own_val xs vs) ∷ Γ) G
    taken_apart vs rest = fpick t (λ vss. fsplit t $ feq_l t (λ is. rest vss is))

module _ {M : Type 1} {𝓤 : Ura M} {𝓛 : Logic 𝓤} {K : Type 0} {Γ : List (Item 𝓤)} {G : Goal 𝓤 𝓛.H} (t : K) (P : Fml) where
  -- what a struct without fields owns is its resource alone
  pub hold : Step K 𝓛 (‵ (fsep ((of_fields []).own_val tt (bare ∷ [])) P) ∷ Γ) G (‵ P ∷ Γ) G
  hold = step (λ rest. nothing t $ put_together t [] tt tt $ fjoin t $ rest)

  pub release : Step K 𝓛 (‵ P ∷ Γ) G (‵ (fsep ((of_fields []).own_val tt (bare ∷ [])) P) ∷ Γ) G
  release = step (λ rest. fsplit t $ drop t $ rest)

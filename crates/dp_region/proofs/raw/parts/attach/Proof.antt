-- `attach`: the shell takes the bytes. Assumes `Logic`.
use Rattle.dp_region.proofs.Steps.{◌≡◌, ℕ, [], ◌∷◌, ◌++◌, length, refl, ftrue, tables, fact, WpFn, ‵, raw, ◌⊛◌, prop, ◌$◌, ◌∵◌, !, qed, done, move, keep}
use Rattle.dp_region.proofs.Steps.{split, join, fjoin, feq_i, rewrite, regoal, suffices, group, enter, returns, of_opd, alloc_all, pass_all, free_all}
use Rattle.dp_region.proofs.Steps.{look_at, get, sets, yes, plain, nothing, heard, Stays, stay_dropped, says, walk_of, ends_at, Goes-blank, proved_at}
use types.Part.{sub, whole}
use types.Run.{fld, stop}
use types.ByLocal.{get_in}
use denote.Param.{layout}
use denote.Struct.Struct.{as_fields}
use Rattle.dp_region.specs.Ownership.{run_owns}
use Rattle.dp_region.proofs.Rows.{Owner}
use Rattle.dp_region.proofs.Shells.{refilled}
use Rattle.dp_region.proofs.Words.{bare, release}
use Rattle.dp_region.specs.contracts.raw.Run as Run
use Rattle.dp_region.specs.contracts.raw.Shell as Shell
use Rattle.dp_region.proofs.raw.Run.TheLaws as run_laws
use Rattle.dp_region.specs.contracts.raw.parts.attach as f
use Rattle.dp_region.proofs.raw.parts.attach.Statement.{statement}
use Rattle.dp_region.proofs.raw.parts.attach.Code as code

abbrev stayed : Stays f.ended.signature.params f.ended.kept
stayed = (stay_dropped (plain (λ _. Shell.the_row)) yes, (stay_dropped (plain (λ _. Run.the_row)) yes, tt))

pub attach_spec : {M : Type 1} → statement M
attach_spec 𝓤 𝓛 𝓜 𝓡 wired =
    let c = f.clauses 𝓛 𝓜.mem 𝓡.returns in let W = walk_of 𝓛 f.ended stayed c in let 𝓣 = tables 𝓤 𝓛.H 𝓜 𝓡 𝓡.env in
    proved_at 𝓛 f.ended stayed c 𝓜 𝓡 (
      Goes-blank 𝓛 0 (plain (λ _. Shell.the_row)) yes (λ κs x z. tt),
      (Goes-blank 𝓛 0 (plain (λ _. Run.the_row)) yes (λ κs x z. tt), tt),
    ) f.Key.name code.function (code.unfolded 𝓤 𝓛.H 𝓜 𝓡 wired) (λ y are.
    let (_, _, _, args, words) = y.0 in let (e, (r, _)) = args in let xs = r.bytes in let (ss, (rs, _)) = words in
    qed 𝓛 ((‵ ftrue ⊛ ‵ (Shell.the_row.own_val e ss) ⊛ ‵ (Run.the_row.own_val r rs) ⊛ ‵ ftrue) ∷ raw (fact 𝓤 ((r.start ≡ e.ptr) × (length xs ≡ e.len))) ∷ [])
    ∵ move ! (1 ∷ []) $ heard ! _ (λ asked.
    let none : rs ≡ bare ∷ [] = run_laws.lowers.val_is r rs are.1.0 in
    split ! $ move ! (1 ∷ []) $ split ! $ move ! (1 ∷ []) $ split ! $ keep ! (0 ∷ 2 ∷ []) $
    rewrite ! 0 (λ vs. ‵ (Run.the_row.own_val r vs)) none refl $ release ! (run_owns r.start xs) $ rewrite ! 0 (λ p. ‵ (run_owns p xs)) asked.0 refl $
    feq_i ! ℕ (length xs) e.len asked.1 $ fjoin ! $ move ! (1 ∷ 0 ∷ []) $ refilled ! e xs ss (λ v u items is fits.
    regoal ! (λ vs. prop (WpFn 𝓤 𝓛.H 𝓣.C 𝓣.Λ code.function (ss ++ (vs ++ [])) (W.post y))) none refl $
    regoal ! (λ vs. prop (WpFn 𝓤 𝓛.H 𝓣.C 𝓣.Λ code.function (vs ++ (bare ∷ [])) (W.post y))) is refl $
    enter ! _ _ _ _ _ $ alloc_all ! (λ l. pass_all ! refl (as_fields (layout Owner ∷ []) (u ∷ []) (fits, tt), ((tt, tt), tt)) $
    sets ! (of_opd ! (get_in ! (fld ! {τ = layout Owner} {d = 0} refl (stop !)) (sub ! 0 {τ = layout Owner} refl (whole !)))) refl fits $ sets !
    (of_opd ! (get ! refl)) refl fits $
    returns ! (look_at ! 0 refl) $ free_all ! refl $
    suffices ! _ (ends_at 𝓛 f.ended stayed c y u v (tt, (tt, tt)) (tt, (tt, tt))) $ says ! items $
    nothing ! $ nothing ! $ join ! $ nothing ! $ join ! $ nothing ! $ group ! 3 $ done !))))

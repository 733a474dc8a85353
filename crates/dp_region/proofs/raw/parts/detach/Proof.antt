-- `detach`: the bytes leave the vector. Assumes `Logic`.
use Rattle.dp_region.proofs.Steps.{◌<◌, [], ◌∷◌, ◌++◌, refl, ftrue, tables, fact, WpFn, ‵, raw, ◌⊛◌, prop, ◌$◌, ◌∵◌, !, qed, done, move, keep, use1, split}
use Rattle.dp_region.proofs.Steps.{join, fjoin, regoal, suffices, group, agg, enter, returns, of_opd, and_then, no_more, alloc_all, pass_all, free_all}
use Rattle.dp_region.proofs.Steps.{look_at, get, sets, yes, plain, nothing, heard, Stays, stay_dropped, walk_of, ends_at, Goes-blank, proved_at}
use mir.Val.{vstruct, of_list}
use denote.Param.{layout}
use denote.Struct.Struct.{as_fields}
use Rattle.core.proofs.mem.Facts.{says_two}
use Rattle.dp_region.specs.Ownership.{run_owns}
use Rattle.dp_region.proofs.Rows.{Owner, owner_laws}
use Rattle.dp_region.proofs.Shells.{cased, shelled}
use Rattle.dp_region.proofs.Vecs.{extent}
use Rattle.dp_region.proofs.Words.{bare, told, put_together, hold}
use Rattle.dp_region.specs.contracts.raw.Run as Run
use Rattle.dp_region.specs.contracts.raw.Shell as Shell
use Rattle.dp_region.specs.contracts.raw.parts.detach as f
use Rattle.dp_region.proofs.raw.parts.detach.Statement.{statement}
use Rattle.dp_region.proofs.raw.parts.detach.Code as code

abbrev stayed : Stays f.ended.signature.params f.ended.kept
stayed = (stay_dropped (plain (λ _. Owner)) yes, tt)

pub detach_spec : {M : Type 1} → statement M
detach_spec 𝓤 𝓛 𝓜 𝓡 wired =
    let c = f.clauses 𝓛 𝓜.mem 𝓡.returns in let W = walk_of 𝓛 f.ended stayed c in let 𝓣 = tables 𝓤 𝓛.H 𝓜 𝓡 𝓡.env in
    proved_at 𝓛 f.ended stayed c 𝓜 𝓡 (Goes-blank 𝓛 0 (plain (λ _. Owner)) yes (λ κs x z. tt), tt) f.Key.name code.function (code.unfolded 𝓤 𝓛.H 𝓜 𝓡 wired)
    (λ y are.
    let (_, _, _, args, words) = y.0 in let v = args.0 in let run : (Run.the_row).Denot = record { start = v.ptr; bytes = v.items } in
    let shell : (Shell.the_row).Denot = extent v in
    qed 𝓛 ((‵ ftrue ⊛ ‵ (Owner.own_val v words.0) ⊛ ‵ ftrue) ∷ raw (fact 𝓤 (0 < v.len)) ∷ []) ∵ move ! (1 ∷ []) $ heard ! _ (λ some.
    split ! $ move ! (1 ∷ []) $ split ! $ keep ! (0 ∷ []) $ told ! Owner owner_laws v words.0 (λ u is fits. let whole =
    as_fields (layout Owner ∷ []) (u ∷ []) (fits, tt) in
    use1 𝓛 (‵ (run_owns v.ptr v.items) ⊛ ‵ (Shell.the_row.own_val shell (cased u ∷ []))) (shelled 𝓛 v u fits some) $ split ! $ hold ! (run_owns v.ptr v.items) $
    nothing ! $ move ! (2 ∷ 0 ∷ []) $ fjoin ! $ move ! (1 ∷ 0 ∷ []) $ fjoin ! $ put_together ! (Run.the_row ∷ Shell.the_row ∷ []) (
      run,
      (shell, tt),
    ) (bare ∷ [], (cased u ∷ [], tt)) $
    regoal ! (λ us. prop (WpFn 𝓤 𝓛.H 𝓣.C 𝓣.Λ code.function (us ++ []) (W.post y))) is refl $
    enter ! _ _ _ _ _ $ alloc_all ! (λ l. pass_all ! refl (fits, tt) $
    sets ! (of_opd ! (get ! refl)) refl fits $ sets ! (agg ! (and_then ! (get ! refl) (no_more !))) refl whole $
    sets ! (agg ! (no_more !)) refl (tt, tt) $ sets ! (of_opd ! (get ! refl)) refl whole $
    sets ! (agg ! (and_then ! (get ! refl) (and_then ! (get ! refl) (no_more !)))) refl
    (as_fields (layout Run.the_row ∷ layout Shell.the_row ∷ []) (bare ∷ cased u ∷ []) ((tt, tt), (whole, tt))) $
    returns ! (look_at ! 0 refl) $ free_all ! refl $
    suffices ! _ (ends_at 𝓛 f.ended stayed c y (vstruct (of_list (bare ∷ cased u ∷ []))) (run, shell) (tt, tt) (tt, tt)) $ says_two ! (
      (refl, refl),
      (refl, refl),
    ) $
    nothing ! $ nothing ! $ join ! $ nothing ! $ group ! 3 $ done !))))

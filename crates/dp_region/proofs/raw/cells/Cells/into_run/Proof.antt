-- `into_run`: with nothing lent, all the bytes are there. Assumes `Logic`.
use Rattle.dp_region.proofs.Steps.{◌≡◌, [], ◌∷◌, refl, sym, ap, add-zero, ftrue, full_share, fact, ‵, raw, ◌⊛◌, ◌$◌, ◌∵◌, !, qed, done, move, keep, use1}
use Rattle.dp_region.proofs.Steps.{split, join, fsplit, rewrite, suffices, group, agg, enter, returns, no_more, alloc_all, pass_all, free_all, look_at, sets}
use Rattle.dp_region.proofs.Steps.{yes, block_ptr, bytes, plain, nothing, heard, Stays, stay_dropped, says, walk_of, ends_at, Goes-blank, proved}
use Rattle.dp_region.specs.Ownership.{run_owns, cells_own}
use Rattle.dp_region.proofs.Unlent.{run_in, whole_out}
use Rattle.dp_region.proofs.Words.{bare, hold, release}
use Rattle.dp_region.specs.contracts.raw.cells.Cells as Cells
use Rattle.dp_region.proofs.raw.cells.Cells.TheLaws as cells_laws
use Rattle.dp_region.specs.contracts.raw.cells.Cells.into_run as f
use Rattle.dp_region.proofs.raw.cells.Cells.into_run.Statement.{statement}
use Rattle.dp_region.proofs.raw.cells.Cells.into_run.Code as code

abbrev stayed : Stays f.ended.signature.params f.ended.kept
stayed = (stay_dropped (plain (λ _. Cells.the_row)) yes, tt)

pub into_run_spec : {M : Type 1} → statement M
into_run_spec 𝓤 𝓛 𝓜 𝓡 wired =
    let c = f.clauses 𝓛 𝓜.mem 𝓡.returns in
    proved 𝓛 f.ended stayed c 𝓜 𝓡 (Goes-blank 𝓛 0 (plain (λ _. Cells.the_row)) yes (λ κs x z. tt), tt) f.Key.name code.function (code.unfolded 𝓤 𝓛.H 𝓜 𝓡 wired)
    (λ κs. ((λ d. cells_laws.lowered d ∷ []), tt)) (λ κs. (cells_laws.lowers.val_is, tt)) (λ κs qs bounds a g are.
    let y : (walk_of 𝓛 f.ended stayed c).Ghost = ((κs, qs, bounds, a, (bare ∷ [], tt)), g) in
    let h = a.0.home in let xs = a.0.bytes in let p = block_ptr h.block h.start in
    qed 𝓛 ((‵ ftrue ⊛ ‵ ((Cells.the_row).own_val a.0 (bare ∷ [])) ⊛ ‵ ftrue) ∷ raw (fact 𝓤 (a.0.lent ≡ [])) ∷ []) ∵
    move ! (1 ∷ []) $ heard ! _ (λ home. split ! $ move ! (1 ∷ []) $ split ! $ keep ! (0 ∷ []) $ release ! (cells_own h a.0.lent xs) $
    rewrite ! 0 (λ ls. ‵ (cells_own h ls xs)) home refl $ fsplit ! $ keep ! (0 ∷ []) $
    use1 𝓛 (‵ (bytes full_share xs h.block h.start)) (whole_out 𝓛 h.block h.start xs) $ use1 𝓛 (‵ (run_owns p xs)) (run_in 𝓛 h.block h.start xs) $ hold !
    (run_owns p xs) $
    enter ! _ _ _ _ _ $ alloc_all ! (λ l. pass_all ! refl ((tt, tt), tt) $
    sets ! (agg ! (no_more !)) refl (tt, tt) $ returns ! (look_at ! 0 refl) $ free_all ! refl $
    suffices ! _ (ends_at 𝓛 f.ended stayed c y bare (record { start = p; bytes = xs }) (tt, tt) (tt, tt)) $
    says ! (ap (block_ptr h.block) (sym (add-zero h.start)), refl) $ nothing ! $ nothing ! $ join ! $ nothing ! $ group ! 3 $ done !)))

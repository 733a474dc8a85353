-- `new`: no byte is lent, and all rights are fresh. Assumes `Logic`.
use Rattle.dp_region.proofs.Steps.{◌≡◌, ◌^◌, ◌<◌, [], ◌∷◌, length, refl, sym, ap, ◌∙◌, arith, add-zero, le-leb, ftrue, GName, fown, full_share, fact, ‵, raw}
use Rattle.dp_region.proofs.Steps.{◌⊛◌, some, given, later, ◌$◌, ◌∵◌, !, qed, done, move, keep, use0, use1, split, join, fjoin, pick, learn, await, suffices}
use Rattle.dp_region.proofs.Steps.{group, agg, enter, returns, no_more, alloc_all, pass_all, free_all, look_at, sets, yes, block_ptr, block_of, count_of}
use Rattle.dp_region.proofs.Steps.{bytes, plain, nothing, heard, Stays, stay_dropped, says, walk_of, ends_at, Goes-blank, proved}
use Rattle.dp_region.specs.Ownership.{Rights, Home, run_owns, unlent, cells_own}
use Rattle.dp_region.proofs.Rights.{others, tickets_made}
use Rattle.dp_region.proofs.Unlent.{run_out, whole_in}
use Rattle.dp_region.proofs.Words.{bare, hold, release}
use Rattle.dp_region.specs.contracts.raw.Run as Run
use Rattle.dp_region.proofs.raw.Run.TheLaws as run_laws
use Rattle.dp_region.specs.contracts.raw.cells.Cells.new as f
use Rattle.dp_region.proofs.raw.cells.Cells.new.Statement.{statement}
use Rattle.dp_region.proofs.raw.cells.Cells.new.Code as code

abbrev stayed : Stays f.ended.signature.params f.ended.kept
stayed = (stay_dropped (plain (λ _. Run.the_row)) yes, tt)

pub new_spec : {M : Type 1} → statement M
new_spec 𝓤 𝓛 𝓜 𝓡 wired =
    let c = f.clauses 𝓛 𝓜.mem 𝓡.returns in
    proved 𝓛 f.ended stayed c 𝓜 𝓡 (Goes-blank 𝓛 0 (plain (λ _. Run.the_row)) yes (λ κs x z. tt), tt) f.Key.name code.function (code.unfolded 𝓤 𝓛.H 𝓜 𝓡 wired)
    (λ κs. ((λ r. run_laws.lowered r ∷ []), tt)) (λ κs. (run_laws.lowers.val_is, tt)) (λ κs qs bounds a g are.
    let y : (walk_of 𝓛 f.ended stayed c).Ghost = ((κs, qs, bounds, a, (bare ∷ [], tt)), g) in
    let p = a.0.start in let xs = a.0.bytes in let b = block_of p in let o = count_of p in
    qed 𝓛 ((‵ ftrue ⊛ ‵ ((Run.the_row).own_val a.0 (bare ∷ [])) ⊛ ‵ ftrue) ∷ raw (fact 𝓤 (length xs < 2 ^ 63)) ∷ []) ∵
    move ! (1 ∷ []) $ heard ! _ (λ small. split ! $ move ! (1 ∷ []) $ split ! $ keep ! (0 ∷ []) $ release ! (run_owns p xs) $
    use1 𝓛 (given (p ≡ block_ptr b o) (‵ (bytes full_share xs b o))) (run_out 𝓛 p xs) $ learn ! (λ placed.
    use1 𝓛 (‵ (unlent [] b o 0 xs)) (whole_in 𝓛 b o xs) $
    use0 𝓛 (later (some (λ (γ : GName). ‵ (fown Rights γ (others []))))) (tickets_made 𝓛) $
    enter ! _ _ _ _ _ $ alloc_all ! (λ l. pass_all ! refl ((tt, tt), tt) $ await ! tt $ pick ! (λ γ.
    let h : Home = record { block = b; start = o; rights = γ } in
    move ! (1 ∷ 0 ∷ []) $ fjoin ! $ hold ! (cells_own h [] xs) $
    sets ! (agg ! (no_more !)) refl (tt, tt) $ returns ! (look_at ! 0 refl) $ free_all ! refl $
    suffices ! _ (ends_at 𝓛 f.ended stayed c y bare (record { home = h; bytes = xs; lent = []; ok = (le-leb 0 (length xs) (omega arith), small) }) (
      tt,
      tt,
    ) (tt, tt)) $
    says ! (placed ∙ ap (block_ptr b) (sym (add-zero o)), refl, refl) $ nothing ! $ nothing ! $ join ! $ nothing ! $ group ! 3 $ done !)))))

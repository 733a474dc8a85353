-- `give`: a ticket names a lent span, whose bytes come back. Assumes `Logic`.
use Rattle.dp_region.proofs.Steps.{◌≡◌, ◌+◌, ◌^◌, ◌<◌, true, [], ◌∷◌, length, refl, sym, subst, arith, ftrue, full_share, fact, ‵, raw, ◌⊛◌, given, ◌$◌, ◌∵◌}
use Rattle.dp_region.proofs.Steps.{ !, qed, done, move, keep, use1, use2, split, join, fsplit, fjoin, learn, rewrite, suffices, group, agg, enter, returns}
use Rattle.dp_region.proofs.Steps.{no_more, alloc_all, pass_all, free_all, look_at, sets, yes, bytes, plain, nothing, heard, Stays, stay_dropped, says}
use Rattle.dp_region.proofs.Steps.{walk_of, ends_at, Goes-blank, proved}
use Rattle.dp_region.specs.Spans.{listed, without_span, Spaced, with_bytes}
use Rattle.dp_region.specs.Ownership.{ptr_at, run_owns, unlent, tickets_but, ticket, cells_own}
use Rattle.dp_region.specs.Laws.{length-with_bytes}
use Rattle.dp_region.proofs.Rights.{ticket_known, ticket_in}
use Rattle.dp_region.proofs.Spans.{listed_bounds, spaced_without}
use Rattle.dp_region.proofs.Unlent.{given_back, run_out}
use Rattle.dp_region.proofs.Words.{bare, hold, release}
use Rattle.dp_region.specs.contracts.raw.Run as Run
use Rattle.dp_region.specs.contracts.raw.cells.Cells as Cells
use Rattle.dp_region.specs.contracts.raw.cells.Ticket as Ticket
use Rattle.dp_region.proofs.raw.Run.TheLaws as run_laws
use Rattle.dp_region.proofs.raw.cells.Cells.TheLaws as cells_laws
use Rattle.dp_region.proofs.raw.cells.Ticket.TheLaws as ticket_laws
use Rattle.dp_region.specs.contracts.raw.cells.Cells.give as f
use Rattle.dp_region.proofs.raw.cells.Cells.give.Statement.{statement}
use Rattle.dp_region.proofs.raw.cells.Cells.give.Code as code

abbrev stayed : Stays f.ended.signature.params f.ended.kept
stayed = (stay_dropped (plain (λ _. Cells.the_row)) yes, (stay_dropped (plain (λ _. Run.the_row)) yes, (stay_dropped (plain (λ _. Ticket.the_row)) yes, tt)))

pub give_spec : {M : Type 1} → statement M
give_spec 𝓤 𝓛 𝓜 𝓡 wired =
    let c = f.clauses 𝓛 𝓜.mem 𝓡.returns in
    proved 𝓛 f.ended stayed c 𝓜 𝓡 (
      Goes-blank 𝓛 0 (plain (λ _. Cells.the_row)) yes (λ κs x z. tt),
      (
        Goes-blank 𝓛 0 (plain (λ _. Run.the_row)) yes (λ κs x z. tt),
        (Goes-blank 𝓛 0 (plain (λ _. Ticket.the_row)) yes (λ κs x z. tt), tt),
      ),
    )
    f.Key.name code.function (code.unfolded 𝓤 𝓛.H 𝓜 𝓡 wired)
    (λ κs. ((λ d. cells_laws.lowered d ∷ []), ((λ r. run_laws.lowered r ∷ []), ((λ t. ticket_laws.lowered t ∷ []), tt))))
    (λ κs. (cells_laws.lowers.val_is, (run_laws.lowers.val_is, (ticket_laws.lowers.val_is, tt)))) (λ κs qs bounds a g are.
    let d = a.0 in let r = a.1.0 in let t = a.1.1.0 in let h = d.home in let xs = d.bytes in let ls = d.lent in let ws = r.bytes in let p = t.offset in
    let n = t.len in
    let ls' = without_span (p, n) ls in let xs' = with_bytes xs p ws in
    let y : (walk_of 𝓛 f.ended stayed c).Ghost = ((κs, qs, bounds, a, (bare ∷ [], (bare ∷ [], (bare ∷ [], tt)))), g) in
    qed 𝓛 ((‵ ftrue ⊛ ‵ ((Cells.the_row).own_val d (bare ∷ [])) ⊛ ‵ ((Run.the_row).own_val r (bare ∷ [])) ⊛ ‵ ((Ticket.the_row).own_val t (bare ∷ [])) ⊛ ‵
    ftrue)
    ∷ raw (fact 𝓤 ((t.home ≡ h) × (r.start ≡ ptr_at h p) × (length ws ≡ n))) ∷ []) ∵
    move ! (1 ∷ []) $ heard ! _ (λ asked. let (ours, there, long) = asked in
    split ! $ move ! (1 ∷ []) $ split ! $ move ! (1 ∷ []) $ split ! $ move ! (1 ∷ []) $ split ! $ keep ! (0 ∷ 2 ∷ 3 ∷ []) $
    -- [the right; the run; the cells]
    release ! (ticket t.home (p, n)) $ rewrite ! 0 (λ k. ‵ (ticket k (p, n))) ours refl $ move ! (2 ∷ []) $ release ! (cells_own h ls xs) $ fsplit ! $ move !
    (2 ∷ 1 ∷ []) $
    use2 𝓛 (given (listed (p, n) ls ≡ true) (‵ (ticket h (p, n)) ⊛ ‵ (tickets_but h ls))) (ticket_known 𝓛 h (p, n) ls) $ learn ! (λ out. split ! $
    let bounds = listed_bounds (p, n) ls 0 (length xs) d.ok.0 out in let high = bounds.high in
    let same : length xs' ≡ length xs = length-with_bytes xs p ws (omega arith) in
    let whole : (Cells.the_row).Denot = record {
      home = h;
      bytes = xs';
      lent = ls';
      ok = (subst (λ m. Spaced 0 m ls') (sym same) (spaced_without (p, n) ls 0 (length xs) d.ok.0), subst (λ m. m < 2 ^ 63) (sym same) d.ok.1);
    } in
    use2 𝓛 (‵ (tickets_but h ls')) (ticket_in 𝓛 h (p, n) ls 0 (length xs) d.ok.0 out) $ move ! (2 ∷ []) $
    release ! (run_owns r.start ws) $ rewrite ! 0 (λ q. ‵ (run_owns q ws)) there refl $
    use1 𝓛 (given (ptr_at h p ≡ ptr_at h p) (‵ (bytes full_share ws h.block (h.start + p)))) (run_out 𝓛 (ptr_at h p) ws) $ learn !
    (λ _. move ! (0 ∷ 2 ∷ []) $
    use2 𝓛 (‵ (unlent ls' h.block h.start 0 xs')) (given_back 𝓛 h.block ls h.start xs p n high ws 0 (length xs) d.ok.0 out long) $
    fjoin ! $ hold ! (cells_own h ls' xs') $
    enter ! _ _ _ _ _ $ alloc_all ! (λ l. pass_all ! refl ((tt, tt), ((tt, tt), ((tt, tt), tt))) $
    sets ! (agg ! (no_more !)) refl (tt, tt) $ returns ! (look_at ! 0 refl) $ free_all ! refl $
    suffices ! _ (ends_at 𝓛 f.ended stayed c y bare whole (tt, (tt, (tt, tt))) (tt, (tt, (tt, tt)))) $ says ! (out, refl, refl, refl) $
    nothing ! $ nothing ! $ join ! $ nothing ! $ join ! $ nothing ! $ join ! $ nothing ! $ group ! 3 $ done !)))))

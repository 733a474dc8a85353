-- `take`: a span of the bytes leaves with the right to give it back. Assumes `Logic`.
use Rattle.dp_region.proofs.Steps.{◌+◌, ◌<◌, ◌≤◌, [], ◌∷◌, length, refl, arith, w64, ftrue, full_share, fact, ‵, raw, ◌⊛◌, ◌$◌, ◌∵◌, !, qed, done, move, keep}
use Rattle.dp_region.proofs.Steps.{use1, split, join, fsplit, fjoin, suffices, group, agg, enter, returns, and_then, no_more, alloc_all, pass_all, free_all}
use Rattle.dp_region.proofs.Steps.{look_at, get, sets, yes, usize, uint_vals, uint_Tells, bytes, plain, nothing, heard, Stays, stay_dropped, says, walk_of}
use Rattle.dp_region.proofs.Steps.{ends_at, Goes-blank, proved}
use Rattle.dp_region.specs.Spans.{IsUnlent, with_span, bytes_in}
use Rattle.dp_region.specs.Ownership.{ptr_at, run_owns, unlent, tickets_but, ticket, cells_own}
use Rattle.dp_region.proofs.Rights.{ticket_out}
use Rattle.dp_region.proofs.Spans.{spaced_with, unlent_unlisted}
use Rattle.dp_region.proofs.Unlent.{taken, run_in}
use Rattle.dp_region.proofs.Words.{bare, put_together, hold, release}
use Rattle.dp_region.specs.contracts.raw.Run as Run
use Rattle.dp_region.specs.contracts.raw.cells.Cells as Cells
use Rattle.dp_region.specs.contracts.raw.cells.Ticket as Ticket
use Rattle.dp_region.proofs.raw.cells.Cells.TheLaws as cells_laws
use Rattle.dp_region.specs.contracts.raw.cells.Cells.take as f
use Rattle.dp_region.proofs.raw.cells.Cells.take.Statement.{statement}
use Rattle.dp_region.proofs.raw.cells.Cells.take.Code as code
use mir.Val.{vstruct, of_list}

abbrev stayed : Stays f.ended.signature.params f.ended.kept
stayed = (stay_dropped (plain (λ _. Cells.the_row)) yes, (stay_dropped (plain (λ _. usize)) yes, (stay_dropped (plain (λ _. usize)) yes, tt)))

pub take_spec : {M : Type 1} → statement M
take_spec 𝓤 𝓛 𝓜 𝓡 wired =
    let c = f.clauses 𝓛 𝓜.mem 𝓡.returns in let plain_goes = Goes-blank 𝓛 0 (plain (λ _. usize)) yes (λ κs x z. tt) in
    proved 𝓛 f.ended stayed c 𝓜 𝓡 (Goes-blank 𝓛 0 (plain (λ _. Cells.the_row)) yes (λ κs x z. tt), (plain_goes, (plain_goes, tt))) f.Key.name code.function
    (code.unfolded 𝓤 𝓛.H 𝓜 𝓡 wired)
    (λ κs. ((λ d. cells_laws.lowered d ∷ []), (uint_vals w64, (uint_vals w64, tt))))
    (λ κs. (cells_laws.lowers.val_is, (uint_Tells w64, (uint_Tells w64, tt)))) (λ κs qs bounds a g are.
    let d = a.0 in let p = a.1.0 in let n = a.1.1.0 in let h = d.home in let xs = d.bytes in let ls = d.lent in let ls' = with_span (p, n) ls in
    let ys = bytes_in xs p n in
    let y : (walk_of 𝓛 f.ended stayed c).Ghost = ((κs, qs, bounds, a, (bare ∷ [], (uint_vals w64 p, (uint_vals w64 n, tt)))), g) in
    let word = vstruct (of_list (bare ∷ bare ∷ bare ∷ [])) in
    qed 𝓛 ((‵ ftrue ⊛ ‵ ((Cells.the_row).own_val d (bare ∷ [])) ⊛ ‵ (usize.own_val p (uint_vals w64 p)) ⊛ ‵ (usize.own_val n (uint_vals w64 n)) ⊛ ‵ ftrue)
    ∷ raw (fact 𝓤 ((0 < n) × (p + n ≤ length xs) × IsUnlent ls p n)) ∷ []) ∵
    move ! (1 ∷ []) $ heard ! _ (λ asked. let (some, fits, free) = asked in
    let kept : (Cells.the_row).Denot = record {
      home = h;
      bytes = xs;
      lent = ls';
      ok = (spaced_with ls 0 (length xs) p n d.ok.0 (omega arith) some fits free, d.ok.1);
    } in
    let run : (Run.the_row).Denot = record { start = ptr_at h p; bytes = ys } in
    let right : (Ticket.the_row).Denot = record { home = h; offset = p; len = n } in
    split ! $ move ! (1 ∷ []) $ split ! $ keep ! (0 ∷ []) $ release ! (cells_own h ls xs) $ fsplit ! $
    use1 𝓛 (‵ (bytes full_share ys h.block (h.start + p)) ⊛ ‵ (unlent ls' h.block h.start 0 xs)) (taken 𝓛 h.block ls h.start xs p n fits free) $ split ! $
    use1 𝓛 (‵ (run_owns (ptr_at h p) ys)) (run_in 𝓛 h.block (h.start + p) ys) $ hold ! (run_owns (ptr_at h p) ys) $ move ! (2 ∷ []) $
    use1 𝓛 (‵ (ticket h (p, n)) ⊛ ‵ (tickets_but h ls')) (ticket_out 𝓛 h (p, n) ls (unlent_unlisted ls p n some free)) $ split ! $ hold ! (ticket h (p, n)) $
    -- [the ticket; the other rights; the run; the bytes that are left]
    nothing ! $ move ! (1 ∷ 0 ∷ []) $ fjoin ! $ move ! (2 ∷ 0 ∷ []) $ fjoin ! $ move ! (2 ∷ 1 ∷ []) $ fjoin ! $ hold ! (cells_own h ls' xs) $ fjoin ! $
    put_together ! (Cells.the_row ∷ Run.the_row ∷ Ticket.the_row ∷ []) (kept, (run, (right, tt))) (bare ∷ [], (bare ∷ [], (bare ∷ [], tt))) $
    enter ! _ _ _ _ _ $ alloc_all ! (λ l. pass_all ! refl ((tt, tt), ((tt, record { fits = are.1.0.1 }), ((tt, record { fits = are.1.1.0.1 }), tt))) $
    sets ! (agg ! (no_more !)) refl (tt, tt) $ sets ! (agg ! (no_more !)) refl (tt, tt) $ sets ! (agg ! (no_more !)) refl (tt, tt) $
    sets ! (agg ! (and_then ! (get ! refl) (and_then ! (get ! refl) (and_then ! (get ! refl) (no_more !))))) refl (tt, (tt, (tt, (tt, tt)))) $
    returns ! (look_at ! 0 refl) $ free_all ! refl $
    suffices ! _ (ends_at 𝓛 f.ended stayed c y word (kept, run, right) (tt, (tt, (tt, tt))) (tt, (tt, (tt, tt)))) $ says ! (
      refl,
      refl,
      refl,
      refl,
      refl,
      refl,
      refl,
      refl,
    ) $
    nothing ! $ nothing ! $ join ! $ nothing ! $ join ! $ nothing ! $ join ! $ nothing ! $ group ! 3 $ done !)))

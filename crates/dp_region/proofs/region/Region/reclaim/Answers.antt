-- The block's bytes replace its span, and the region keeps its size.
use Rattle.std.proofs.Common.{◌≡◌, ℕ, true, List, length, sym, ap, ◌∙◌, arith}
use Rattle.dp_region.specs.Spans.{Span, listed, Spaced, with_bytes}
use Rattle.dp_region.specs.Ownership.{ptr_at}
use Rattle.dp_region.proofs.Spans.{listed_bounds}
use Rattle.dp_region.specs.Laws.{length-with_bytes}
use Rattle.dp_region.proofs.region.Region.reclaim.Goals as goal

-- the bytes that come back are as many as were lent
same_size : (xs : List ℕ) (ls : List Span) (p n : ℕ) (ws : List ℕ) → Spaced 0 (length xs) ls → listed (p, n) ls ≡ true → length ws ≡ n →
    length (with_bytes xs p ws) ≡ length xs
same_size xs ls p n ws spaced out long =
    let bounds = listed_bounds (p, n) ls 0 (length xs) spaced out in let high = bounds.high in length-with_bytes xs p ws (omega arith)

pub invariant_of-self : goal.invariant_of-self
invariant_of-self c =
    let i = c.self.inside in let (start, shell, fits, long', step) = c.self.invariant in let (out, home, bytes, _) = c.replace_with.ensures in
    let run = c.into_parts.result.0 in
    let ticket = c.into_parts.result.1 in
    let (_, _, len) = c.into_parts.ensures.ticket in let long = ap length c.into_parts.ensures.run.1 ∙ sym len in
    let size = same_size i.cells.bytes i.cells.lent ticket.offset ticket.len run.bytes i.cells.ok.0 out long in
    (start ∙ ap (λ h. ptr_at h 0) (sym home), shell, fits, ap length bytes ∙ size ∙ long', step)

pub returns-clause-size : goal.returns-clause-size
returns-clause-size c =
    let i = c.self.inside in let (out, _, bytes, _) = c.replace_with.ensures in let run = c.into_parts.result.0 in let ticket = c.into_parts.result.1 in
    let (_, _, len) = c.into_parts.ensures.ticket in let long = ap length c.into_parts.ensures.run.1 ∙ sym len in
    rw (sym c.self.view_is) (ap length bytes ∙ same_size i.cells.bytes i.cells.lent ticket.offset ticket.len run.bytes i.cells.ok.0 out long)

-- The count of the records that a file took whole, as it takes more bytes.
use Rattle.std.proofs.Common.{◌≡◌, ℕ, zero, suc, ◌+◌, ◌≤◌, ◌<◌, ◌^◌, List, [], ◌∷◌, ◌++◌, length, length-append, Some, subst, sym, ap, arith, ◌∙◌}
use Rattle.std.proofs.Math.Logic.{∥∥₁_map}
use Rattle.std.proofs.lemmas.List.{flat_map_more}
use Rattle.dp_pcap.specs.{declared.byte_order.Order.Order, Counting.Counted, Counting.ArePieces, Counting.IsAfter, Counting.records_in}
use Rattle.dp_captures.specs.Outlets.{joined, Counts, HasWhole}

-- there are no more whole pieces than bytes
pub pieces_few : (o : Order) (n : ℕ) (bytes : List ℕ) → ArePieces o n bytes → n ≤ length bytes
pieces_few o zero bytes h = omega arith
pieces_few o (suc zero) bytes h = omega (arith, h)
pieces_few o (suc (suc n)) bytes (front, head, body, earlier, whole, split) =
    subst (λ (b : List ℕ). suc (suc n) ≤ length b) (sym split) (omega (
      arith,
      pieces_few o (suc n) front earlier,
      whole.0,
      length-append front (head ++ body),
      length-append head body,
    ))

-- a count is of no more pieces than bytes
pub counted_few : (c : Counted) (bytes : List ℕ) → IsAfter c bytes → c.pieces ≤ length bytes
counted_few c bytes b =
    let whole = b.whole in
    let part = b.part in
    let split : bytes ≡ whole ++ part = b.split in
    let many : length bytes ≡ length (whole ++ part) = ap length split in
    omega (arith, pieces_few c.order c.pieces whole b.pieces, length-append whole part, many)

-- more bytes go by
pub counts_more : (old new : Counted) (bytes more : List ℕ) → Counts old bytes → new.order ≡ old.order
    → (old.pieces + length more < 2 ^ 64 → (before : List ℕ) → IsAfter old before → IsAfter new (before ++ more)) → Counts new (bytes ++ more)
counts_more old new bytes more counts order beyond few =
    let within : length bytes < 2 ^ 64 = omega (arith, few, length-append bytes more) in
    let b : IsAfter old bytes = (counts within).1 in
    let most : old.pieces ≤ length bytes = counted_few old bytes b in
    (order ∙ (counts within).0, beyond (omega (arith, few, most, length-append bytes more)) bytes b)

-- one piece more
pub joined_more : (pieces : List (List ℕ)) (piece : List ℕ) → joined (pieces ++ piece ∷ []) ≡ joined pieces ++ piece
joined_more pieces piece = sym (flat_map_more (λ (p : List ℕ). p) [] pieces piece)

-- another piece goes by
pub piece_passes : (old new : Counted) (pieces after : List (List ℕ)) (more : List ℕ) → ∥ Counts old (joined pieces) ∥₁ → after ≡ pieces ++ more ∷ []
    → new.order ≡ old.order
    → (old.pieces + length more < 2 ^ 64 → (before : List ℕ) → IsAfter old before → IsAfter new (before ++ more)) → ∥ Counts new (joined after) ∥₁
piece_passes old new pieces after more counts is order beyond =
    subst (λ (l : List (List ℕ)). ∥ Counts new (joined l) ∥₁) (sym is) (
    subst (λ (l : List ℕ). ∥ Counts new l ∥₁) (sym (joined_more pieces more)) (
    ∥∥₁_map counts (λ h. counts_more old new (joined pieces) more h order beyond)))

-- this number of records is whole
pub whole_counted : (c : Counted) (bytes : List ℕ) (whole : ℕ) → whole ≡ records_in c → ∥ Counts c bytes ∥₁ → HasWhole whole (Some bytes)
whole_counted c bytes whole is counts = ∥∥₁_map counts (λ (h : Counts c bytes). (c, h, sym is))

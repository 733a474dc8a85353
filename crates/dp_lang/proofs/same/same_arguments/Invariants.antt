use Rattle.std.proofs.Common.{◌≡◌, ℕ, ◌<◌, length}
use Rattle.dp_lang.proofs.Spellings.{shown_at}
use Rattle.dp_lang.proofs.same.same_arguments.Given as goal

abbrev pub invariant-loop-i : goal.invariant-loop-i
invariant-loop-i l = (length l.a ≡ length l.b) × ((k : ℕ) → k < l.i → shown_at l.a k ≡ shown_at l.b k)

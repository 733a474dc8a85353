-- The result of a request for a block.
use Rattle.std.specs.Prelude.{◌≡◌, ℕ, ◌+◌, ◌<◌, List, Result, IfOk, MatchResult}
use Rattle.dp_region.specs.Region.{BlockView}
use Rattle.dp_heap.specs.declared.error.HeapError.{HeapError}
use Rattle.dp_heap.specs.Elements.{rounded, alignment, is_busy, count_of, merged, Taken}
use Rattle.dp_heap.specs.Laid.{HeapView}
use Rattle.dp_heap.specs.Refusals.{IsAlign, IsRefused}

-- a request for n bytes, aligned to a, takes the heap from `old` to `new`: it takes a block whose bytes satisfy Bytes, or it is refused
pub record Answered (Bytes : List ℕ → Type 0) (old new : HeapView) (n a : ℕ) (answer : Result BlockView HeapError) : Type 0 where
  pub block : IfOk answer (λ b. (b.home ≡ old.home) × Bytes b.bytes × Taken old.elements (rounded n) (alignment a) b.offset new.elements)
  pub home : new.home ≡ old.home
  pub refused : MatchResult answer (λ _. (0 < n) × IsAlign a) (λ e. IsRefused e n a old.elements × (new ≡ old))
  pub undone : IfOk answer (λ b. merged b.offset new.elements ≡ old.elements)
  pub counted : MatchResult answer (λ _. count_of is_busy new.elements ≡ count_of is_busy old.elements + 1)
      (λ _. count_of is_busy new.elements ≡ count_of is_busy old.elements)

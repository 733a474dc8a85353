-- Zones that come back to the engine's memory.
use Rattle.std.proofs.Common.{◌≡◌, ℕ, ◌+◌, ap, ◌∙◌}
use Rattle.dp_heap.specs.Elements.{merged, count_of, is_busy}
use Rattle.dp_heap.specs.Laid.{HeapView}
use Rattle.dp_engine.specs.Memories.{EngineMemoryView, Returns}
use Rattle.dp_engine.specs.Builders.{size_of}
use Rattle.dp_engine.proofs.BuilderLemmas.{merged_size}

abbrev pub seen : HeapView → EngineMemoryView
seen h = record { home = h.home; size = size_of h.elements; out = count_of is_busy h.elements }

pub one_back : (old new : HeapView) (v : EngineMemoryView) (offset : ℕ) → seen old ≡ v → new ≡ record { home = old.home; elements = merged offset old.elements }
    → count_of is_busy new.elements + 1 ≡ count_of is_busy old.elements → Returns 1 v (seen new)
one_back old new v offset view is counted = record {
  home = ap (λ (h : HeapView). h.home) is ∙ ap (λ (x : EngineMemoryView). x.home) view;
  size = ap (λ (h : HeapView). size_of h.elements) is ∙ merged_size offset old.elements ∙ ap (λ (x : EngineMemoryView). x.size) view;
  out = counted ∙ ap (λ (x : EngineMemoryView). x.out) view;
}

pub two_back : (old new : HeapView) (v : EngineMemoryView) (offset next : ℕ) → seen old ≡ v →
    new ≡ record { home = old.home; elements = merged offset (merged next old.elements) }
    → count_of is_busy new.elements + 2 ≡ count_of is_busy old.elements → Returns 2 v (seen new)
two_back old new v offset next view is counted = record {
  home = ap (λ (h : HeapView). h.home) is ∙ ap (λ (x : EngineMemoryView). x.home) view;
  size = ap (λ (h : HeapView). size_of h.elements) is ∙ merged_size offset (merged next old.elements) ∙ merged_size next old.elements
      ∙ ap (λ (x : EngineMemoryView). x.size) view;
  out = counted ∙ ap (λ (x : EngineMemoryView). x.out) view;
}

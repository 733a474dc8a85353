-- Writing bytes into others; lending a span, writing it and taking it back.
use Rattle.std.proofs.Common.{◌≡◌, ℕ, ◌+◌, ◌≤◌, Bool, false, cond, ltb, List, [], ◌∷◌, ◌++◌, length, drop, sym, ap, ◌∙◌, arith, length-drop}
use mathlib.Core.List.{append-nil}
use Rattle.std.proofs.lemmas.Bool.{or_parts}
use Rattle.std.proofs.lemmas.List.{nil_from_length}
use Rattle.dp_region.specs.Spans.{Span, is_span, listed, with_span, without_span, bytes_in, with_bytes}
use Rattle.dp_region.specs.Region.{RegionView}
use Rattle.dp_region.proofs.Spans.{is_span-same}
use Rattle.dp_region.specs.Laws.{length-bytes_in, by_test}

-- a write of the full length replaces all bytes
pub with_bytes-whole : (ys ws : List ℕ) → length ws ≡ length ys → with_bytes ys 0 ws ≡ ws
with_bytes-whole ys ws e =
    ap (λ (l : List ℕ). ws ++ l) (nil_from_length (drop (0 + length ws) ys) (length-drop (0 + length ws) ys ∙ omega arith)) ∙ append-nil ws

-- lending a span and taking it back changes nothing
pub without_with : (r : Span) (ls : List Span) → listed r ls ≡ false → without_span r (with_span r ls) ≡ ls
without_with r [] new = ap (λ (t : Bool). cond t [] (r ∷ [])) (is_span-same r)
without_with r (s ∷ ss) new =
    let off = or_parts (is_span r s) (listed r ss) new in
    by_test (ltb r.0 s.0)
    (λ e. ap (λ (t : Bool). without_span r (cond t (r ∷ s ∷ ss) (s ∷ with_span r ss))) e
    ∙ ap (λ (t : Bool). cond t (s ∷ ss) (r ∷ without_span r (s ∷ ss))) (is_span-same r))
    (λ e. ap (λ (t : Bool). without_span r (cond t (r ∷ s ∷ ss) (s ∷ with_span r ss))) e
    ∙ ap (λ (t : Bool). cond t (with_span r ss) (s ∷ without_span r (with_span r ss))) off.0 ∙ ap (λ (l : List Span). s ∷ l) (without_with r ss off.1))

-- lending a span, writing it and taking it back is a write
pub stored : (r : RegionView) (p n : ℕ) (ws : List ℕ) → length ws ≡ n → p + n ≤ length r.bytes → listed (p, n) r.lent ≡ false
    → record {
      home = r.home;
      bytes = with_bytes r.bytes p (with_bytes (bytes_in r.bytes p n) 0 ws);
      lent = without_span (p, length (with_bytes (bytes_in r.bytes p n) 0 ws)) (with_span (p, n) r.lent);
    }
    ≡ record r { bytes = with_bytes r.bytes p ws }
stored r p n ws long fits new =
    let whole = with_bytes-whole (bytes_in r.bytes p n) ws (long ∙ sym (length-bytes_in r.bytes p n fits)) in
    let back : without_span (p, length (with_bytes (bytes_in r.bytes p n) 0 ws)) (with_span (p, n) r.lent) ≡ r.lent =
    ap (λ (m : ℕ). without_span (p, m) (with_span (p, n) r.lent)) (ap length whole ∙ long) ∙ without_with (p, n) r.lent new in
    λ i. record { home = r.home; bytes = with_bytes r.bytes p (whole i); lent = back i }

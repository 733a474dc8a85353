-- Outputs that are apart, one after the other.
use Rattle.std.proofs.Common.{◌≡◌, ℕ, zero, suc, ◌<◌, ◌≤◌, List, [], ◌∷◌, ◌++◌, length, drop, map, None}
use Rattle.std.proofs.Common.{arith, subst, ap, ◌∙◌}
use Rattle.std.specs.Prelude.{find, slice_index_or}
use Rattle.dp_captures.specs.{declared.guard.Kept.Kept, declared.guard.Target.Target, Guarding.AreApart, Guarding.is_same_target, Guarding.targets}

-- one output more is apart
pub apart_more : {O : Type 0} (f : O → Target) (kept : List Kept) (after : List Target) (outs : List O) (k : ℕ) (out d : O) (target : Target)
    → k < length outs → out ≡ slice_index_or outs k d → target ≡ f out → find (is_same_target target) (targets kept) ≡ None
    → after ≡ targets kept ++ target ∷ [] → AreApart after (map f (drop (suc k) outs)) → AreApart (targets kept) (map f (drop k outs))
apart_more f kept after [] k out d target within at is none more rest = absurd (omega (arith, within))
apart_more f kept after (o ∷ outs) zero out d target within at is none more rest =
    let same : target ≡ f o = is ∙ ap f at in (
      subst (λ (t : Target). find (is_same_target t) (targets kept) ≡ None) same none,
      subst (λ (l : List Target). AreApart l (map f outs)) (more ∙ ap (λ (t : Target). targets kept ++ t ∷ []) same) rest,
    )
apart_more f kept after (o ∷ outs) (suc k) out d target within at is none more rest =
    apart_more f kept after outs k out d target (omega (arith, within)) at is none more rest

-- no output is left
pub none_left : {O : Type 0} (f : O → Target) (before : List Target) (outs : List O) (k : ℕ) → length outs ≤ k → AreApart before (map f (drop k outs))
none_left f before [] zero past = tt
none_left f before [] (suc k) past = tt
none_left f before (o ∷ outs) zero past = absurd (omega (arith, past))
none_left f before (o ∷ outs) (suc k) past = none_left f before outs k (omega (arith, past))

-- Devices whose health stays.
use Rattle.std.proofs.Common.{◌≡◌, ℕ, zero, suc, List, [], ◌∷◌, map, Some, Bool, refl, ap, sym, ◌∙◌}
use Rattle.std.specs.Prelude.{slice_get}
use Rattle.std.proofs.lemmas.Option.{same_Some}
use Rattle.dp_pipe.specs.Devices.{AllFared, AllSound, Fared}
use Rattle.dp_runs.specs.Closing.{health}

-- the calls of each
pub calls_kept : {D : Type 0} (is_broken : D → Bool) (failures calls : D → ℕ) (olds news : List D)
    → map (health is_broken failures calls) news ≡ map (health is_broken failures calls) olds → map calls news ≡ map calls olds
calls_kept is_broken failures calls [] [] same = refl
calls_kept is_broken failures calls [] (n ∷ news) same = cc
calls_kept is_broken failures calls (o ∷ olds) [] same = cc
calls_kept is_broken failures calls (o ∷ olds) (n ∷ news) same =
    let here : health is_broken failures calls n ≡ health is_broken failures calls o = cc in
    let rest : map (health is_broken failures calls) news ≡ map (health is_broken failures calls) olds = cc in
    let called : calls n ≡ calls o = ap (λ (h : Bool × ℕ × ℕ). h.2) here in
    rw (called, calls_kept is_broken failures calls olds news rest) refl

-- none is broken
pub all_sound : {D : Type 0} (is_broken : D → Bool) (failures calls : D → ℕ) (olds news : List D)
    → map (health is_broken failures calls) news ≡ map (health is_broken failures calls) olds → AllSound is_broken olds → AllSound is_broken news
all_sound is_broken failures calls [] [] same sound = tt
all_sound is_broken failures calls [] (n ∷ news) same sound = cc
all_sound is_broken failures calls (o ∷ olds) [] same sound = tt
all_sound is_broken failures calls (o ∷ olds) (n ∷ news) same sound =
    let here : health is_broken failures calls n ≡ health is_broken failures calls o = cc in
    let rest : map (health is_broken failures calls) news ≡ map (health is_broken failures calls) olds = cc in
    let kept : is_broken n ≡ is_broken o = ap (λ (h : Bool × ℕ × ℕ). h.0) here in
    (kept ∙ sound.0, all_sound is_broken failures calls olds news rest sound.1)

-- the device at an index, before
before_at : {D : Type 0} (f : D → Bool × ℕ × ℕ) (olds news : List D) (q : ℕ) (new : D) → map f news ≡ map f olds → slice_get news q ≡ Some new
    → (old : D) × (slice_get olds q ≡ Some old) × (f new ≡ f old)
before_at f [] [] q new same at = cc
before_at f [] (n ∷ news) q new same at = cc
before_at f (o ∷ olds) [] q new same at = cc
before_at f (o ∷ olds) (n ∷ news) zero new same at =
    let here : f n ≡ f o = cc in
    (o, refl, ap f (sym (same_Some n new at)) ∙ here)
before_at f (o ∷ olds) (n ∷ news) (suc q) new same at =
    let rest : map f news ≡ map f olds = cc in
    before_at f olds news q new rest at

-- each fared as before
pub all_fared : {D : Type 0} (is_broken : D → Bool) (failures calls : D → ℕ) (failed : ℕ → Bool) (befores olds news : List D)
    → map (health is_broken failures calls) news ≡ map (health is_broken failures calls) olds → AllFared is_broken failures failed befores olds
    → AllFared is_broken failures failed befores news
all_fared is_broken failures calls failed befores olds news same fared q before new at_before at_new =
    let there = before_at (health is_broken failures calls) olds news q new same at_new in
    let f : Fared is_broken failures (failed q) before there.0 = fared q before there.0 at_before there.1 in
    record {
      broken = ap (λ (h : Bool × ℕ × ℕ). h.0) there.2 ∙ f.broken;
      count = ap (λ (h : Bool × ℕ × ℕ). h.1) there.2 ∙ f.count;
    }

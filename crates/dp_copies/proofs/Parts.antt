-- Parts of lists of bytes that were overwritten.
use Rattle.std.proofs.Common.{◌≡◌, ℕ, zero, suc, ◌+◌, ◌-◌, ◌<◌, ◌≤◌, List, [], ◌∷◌, ◌++◌, length, drop, refl, ◌∙◌, arith, ⊎_elim, take, sym, rules}
use Rattle.std.specs.Prelude.{slice_range}
use Rattle.std.proofs.lemmas.Bool.{cases_lt}
use Rattle.std.proofs.lemmas.List.{places, same_lists}
use Rattle.dp_model.specs.Buffers.{Number, Buffers, bytes_of, overwritten, written}
use Rattle.dp_model.specs.Laws.Stored.{bytes_same, bytes_either}

-- zeros written before a part, and after it
pub range_before : (old new : List ℕ) (offset len n : ℕ) → length new ≡ n → n ≤ offset → offset + len ≤ length old →
    slice_range (overwritten old (offset - n) new) (offset - n) (offset - n + (len + n)) ≡ new ++ slice_range old offset (offset + len)
range_before old new offset len n is short long = same_lists _ _ (search (rules, places)) (λ k d h. grind (arith, places))

pub range_after : (old new : List ℕ) (offset len n : ℕ) → length new ≡ n → offset + len + n ≤ length old →
    slice_range (overwritten old (offset + len) new) offset (offset + (len + n)) ≡ slice_range old offset (offset + len) ++ new
range_after old new offset len n is long = same_lists _ _ (search (rules, places)) (λ k d h. grind (arith, places))

-- a part without its first bytes, and without its last
pub range_drop : (old : List ℕ) (offset len n : ℕ) → n ≤ len → offset + len ≤ length old → slice_range old (offset + n) (offset + n + (len - n))
    ≡ drop n (slice_range old offset (offset + len))
range_drop old offset len n short long = same_lists _ _ (search (rules, places)) (λ k d h. grind (arith, places))

pub range_take : (old : List ℕ) (offset len n : ℕ) → n ≤ len → offset + len ≤ length old → slice_range old offset (offset + (len - n))
    ≡ take (len - n) (slice_range old offset (offset + len))
range_take old offset len n short long = same_lists _ _ (search (rules, places)) (λ k d h. grind (arith, places))

-- the bytes of a buffer that is written within
pub written_at : (buffers : Buffers) (n : Number) (start : ℕ) (new : List ℕ) → start + length new ≤ length (bytes_of buffers n) →
    bytes_of (written buffers n start new) n ≡ overwritten (bytes_of buffers n) start new
written_at buffers n start new fits =
    let old = bytes_of buffers n in
    ⊎_elim
    (λ (some : 0 < length old). bytes_same buffers n (overwritten old start new) some)
    (λ (none : length old ≤ 0). ⊎_elim
    (λ is. is)
    (λ is. is ∙ nothing old new start (omega (arith, none, fits)) (omega (arith, none)))
    (bytes_either buffers n (overwritten old start new)))
    (cases_lt 0 (length old))
  where
    drop_none : (n : ℕ) → drop {A = ℕ} n [] ≡ []
    drop_none zero = refl
    drop_none (suc n) = refl

    nothing : (old new : List ℕ) (start : ℕ) → length new ≡ 0 → length old ≡ 0 → old ≡ overwritten old start new
    nothing [] [] zero a b = refl
    nothing [] [] (suc start) a b = sym (drop_none (suc start + 0))
    nothing [] (x ∷ new) start a b = absurd (omega (arith, a))
    nothing (x ∷ old) new start a b = absurd (omega (arith, b))

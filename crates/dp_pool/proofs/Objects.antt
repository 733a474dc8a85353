-- Objects in the bytes of their zone; a write into one keeps the others.
use Rattle.std.proofs.Common.{◌≡◌, ℕ, zero, suc, ◌+◌, ◌-◌, ◌*◌, ◌<◌, ◌≤◌, ltb, List, [], ◌∷◌, length, slice_set, refl, sym, ap, ap₂, ◌∙◌, arith, inl, inr}
use Rattle.std.specs.Prelude.{slice_index_or}
use lib.ListN.{get_or}
use Rattle.std.proofs.Math.Nat.{suc-mul}
use Rattle.std.proofs.lemmas.Bool.{cases_Bool, ltb-true, ltb-false}
use Rattle.std.proofs.lemmas.List.{ext_get_or}
use Rattle.core.proofs.slots.Runs.{in_run, run_long, inside, outside}
use Rattle.dp_region.specs.Spans.{bytes_in, with_bytes}
use Rattle.dp_region.specs.Laws.{length-with_bytes, bytes_in-other}
use Rattle.dp_pool.specs.Pools.{overwritten, stride_of, objects_from, object_offset}

pub stride_covers : (size : ℕ) → size ≤ stride_of size
stride_covers size = omega arith

pub object_offset_is : (size offset i : ℕ) → object_offset size offset i ≡ offset + i * stride_of size
object_offset_is size offset zero = omega arith
object_offset_is size offset (suc i) = object_offset_is size (offset + stride_of size) i
    ∙ (let more : suc i * stride_of size ≡ i * stride_of size + stride_of size = suc-mul i (stride_of size) in omega (arith, more))

pub offset_from : (size offset i : ℕ) → offset ≤ object_offset size offset i
offset_from size offset zero = omega arith
offset_from size offset (suc i) = let rest = offset_from size (offset + stride_of size) i in omega (arith, rest)

-- an object ends before the end of the last
pub offset_within : (size offset n i : ℕ) → i < n → object_offset size offset i + stride_of size ≤ object_offset size offset n
offset_within size offset zero i less = absurd (omega (arith, less))
offset_within size offset (suc n) zero less = offset_from size (offset + stride_of size) n
offset_within size offset (suc n) (suc i) less = offset_within size (offset + stride_of size) n i (omega (arith, less))

pub length-objects : (bytes : List ℕ) (size offset n : ℕ) → length (objects_from bytes size offset n) ≡ n
length-objects bytes size offset zero = refl
length-objects bytes size offset (suc n) = let rest = length-objects bytes size (offset + stride_of size) n in omega (arith, rest)

pub object_is : (bytes : List ℕ) (size offset n i : ℕ) → i < n → slice_index_or (objects_from bytes size offset n) i []
    ≡ bytes_in bytes (object_offset size offset i) size
object_is bytes size offset zero i less = absurd (omega (arith, less))
object_is bytes size offset (suc n) zero less = refl
object_is bytes size offset (suc n) (suc i) less = object_is bytes size (offset + stride_of size) n i (omega (arith, less))

-- ---- writes

-- a write inside a part of the bytes
bytes_in-inside : (xs : List ℕ) (q n at : ℕ) (ws : List ℕ) → at + length ws ≤ n → q + n ≤ length xs → bytes_in (with_bytes xs (q + at) ws) q n
    ≡ overwritten (bytes_in xs q n) at ws
bytes_in-inside xs q n at ws fits room =
    let whole = with_bytes xs (q + at) ws in
    let part = bytes_in xs q n in
    let fits_whole : q + at + length ws ≤ length xs = omega (arith, fits, room) in
    let long_part = run_long xs q n room in
    let long_whole = length-with_bytes xs (q + at) ws fits_whole in
    let fits_part : at + length ws ≤ length part = omega (arith, fits, long_part) in
    let long_new = length-with_bytes part at ws fits_part in
    let long_old = run_long whole q n (omega (arith, long_whole, room)) in
    ext_get_or 0 (bytes_in whole q n) (overwritten part at ws) (long_old ∙ sym (long_new ∙ long_part)) (λ k h.
    let less : k < n = omega (arith, h, long_old) in
    in_run whole q n k 0 less ∙ elim (cases_Bool (ltb k at)) [
      | inl front ↦
          let early = ltb-true k at front in
          outside xs (q + at) (length ws) fits_whole ws refl (q + k) 0 (inl (omega (arith, early)))
          ∙ (sym (in_run xs q n k 0 less) ∙ sym (outside part at (length ws) fits_part ws refl k 0 (inl early)))
      | inr later ↦
          let from = ltb-false k at later in
          elim (cases_Bool (ltb k (at + length ws))) [
            | inl middle ↦
                let before = ltb-true k (at + length ws) middle in
                inside xs (q + at) (length ws) fits_whole ws refl (q + k) 0 (omega (arith, from)) (omega (arith, before))
                ∙ (ap (λ j. get_or ws j 0) (let same : q + k - (q + at) ≡ k - at = omega (arith, from) in same)
                ∙ sym (inside part at (length ws) fits_part ws refl k 0 from before))
            | inr beyond ↦
                let past = ltb-false k (at + length ws) beyond in
                outside xs (q + at) (length ws) fits_whole ws refl (q + k) 0 (inr (omega (arith, past)))
                ∙ (sym (in_run xs q n k 0 less) ∙ sym (outside part at (length ws) fits_part ws refl k 0 (inr past)))
          ]
    ])

-- a write before all the objects leaves them
objects_kept : (bytes : List ℕ) (size offset n p : ℕ) (ws : List ℕ) → p + length ws ≤ length bytes → p + length ws ≤ offset →
    object_offset size offset n ≤ length bytes
    → objects_from (with_bytes bytes p ws) size offset n ≡ objects_from bytes size offset n
objects_kept bytes size offset zero p ws fits before room = refl
objects_kept bytes size offset (suc n) p ws fits before room =
    let low = offset_from size (offset + stride_of size) n in
    ap₂ (λ (x : List ℕ) (xs : List (List ℕ)). x ∷ xs)
    (bytes_in-other bytes p ws fits offset size (omega (arith, low, room)) (inr before))
    (objects_kept bytes size (offset + stride_of size) n p ws fits (omega (arith, before)) room)

-- a write into an object changes it alone
pub objects_written : (bytes : List ℕ) (size offset n i at : ℕ) (ws : List ℕ) → i < n → at + length ws ≤ size → object_offset size offset n ≤ length bytes
    → objects_from (with_bytes bytes (object_offset size offset i + at) ws) size offset n
    ≡ slice_set (objects_from bytes size offset n) i (overwritten (bytes_in bytes (object_offset size offset i) size) at ws)
objects_written bytes size offset zero i at ws less fits room = absurd (omega (arith, less))
objects_written bytes size offset (suc n) zero at ws less fits room =
    let low = offset_from size (offset + stride_of size) n in
    ap₂ (λ (x : List ℕ) (xs : List (List ℕ)). x ∷ xs)
    (bytes_in-inside bytes offset size at ws fits (omega (arith, low, room)))
    (objects_kept bytes size (offset + stride_of size) n (offset + at) ws (omega (arith, low, room, fits)) (omega (arith, fits)) room)
objects_written bytes size offset (suc n) (suc i) at ws less fits room =
    let q = object_offset size (offset + stride_of size) i in
    let low = offset_from size (offset + stride_of size) i in
    let high = offset_within size (offset + stride_of size) n i (omega (arith, less)) in
    ap₂ (λ (x : List ℕ) (xs : List (List ℕ)). x ∷ xs)
    (bytes_in-other bytes (q + at) ws (omega (arith, high, fits, room)) offset size (omega (arith, low, high, room)) (inl (omega (arith, low))))
    (objects_written bytes size (offset + stride_of size) n i at ws (omega (arith, less)) fits room)

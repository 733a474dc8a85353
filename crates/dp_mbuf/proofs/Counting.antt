-- Counts over segments, and what holds of all of them, when one slot changes.
use Rattle.std.proofs.Common.{◌≡◌, ◌≢◌, ℕ, zero, suc, ◌+◌, ◌<◌, ◌≤◌, Bool, true, false, cond, List, [], ◌∷◌, ◌++◌, length, Option, Some, None, refl}
use Rattle.std.proofs.Common.{arith, get_or, set}
use Rattle.std.specs.Prelude.{count_by, ◌&&◌, not}
use Rattle.std.specs.List.{AllByRecursion}
use Rattle.std.proofs.lemmas.List.Sums.{sum_by-append, sum_by-cons, count_by-le-length}
use Rattle.dp_model.specs.Buffers.{Number, same_number}
use Rattle.dp_model.specs.Packets.{Segment, Packet, refs}
use Rattle.dp_model.specs.Machine.{segments_held}
use Rattle.dp_mbuf.specs.Mbufs.{mbufs, indirects}
use Rattle.dp_model.specs.Laws.Stored.{same_number_refl}
use Rattle.dp_model.specs.Laws.Lists.{all_join, all_left, all_right}
use Rattle.dp_model.specs.Laws.StepsWithin.{AllOf}
use Rattle.dp_model.specs.Laws.Cases.{one_if}
use Rattle.dp_model.specs.Laws.References.{refs-cons}

module _ (f : Segment → Bool) where
  pub count-append : (xs ys : List Segment) → count_by f (xs ++ ys) ≡ count_by f xs + count_by f ys
  count-append xs ys = sum_by-append (λ s. cond (f s) 1 0) xs ys

  pub count-cons : (s : Segment) (ys : List Segment) → count_by f (s ∷ ys) ≡ one_if (f s) + count_by f ys
  count-cons s ys = sum_by-cons (λ s. cond (f s) 1 0) s ys

  abbrev pub count_of : Option Packet → ℕ
  count_of None = 0
  count_of (Some k) = count_by f k

  held : (o : Option Packet) (slots : List (Option Packet)) → count_by f (segments_held (o ∷ slots)) ≡ count_of o + count_by f (segments_held slots)
  held None slots = omega arith
  held (Some k) slots = count-append k (segments_held slots)

  -- one slot set
  pub slot_counted : (slots : List (Option Packet)) (i : ℕ) (o : Option Packet) → i < length slots →
      count_by f (segments_held (set slots i o)) + count_of (get_or slots i None) ≡ count_by f (segments_held slots) + count_of o
  slot_counted [] i o h = absurd (omega arith)
  slot_counted (x ∷ slots) zero o h = omega (arith, held x slots, held o slots)
  slot_counted (x ∷ slots) (suc i) o h =
      omega (arith, slot_counted slots i o (omega arith), held x slots, held x (set slots i o))

  -- a slot's segments are among all of them
  pub slot_among : (slots : List (Option Packet)) (i : ℕ) → count_of (get_or slots i None) ≤ count_by f (segments_held slots)
  slot_among [] i = omega arith
  slot_among (x ∷ slots) zero = omega (arith, held x slots)
  slot_among (x ∷ slots) (suc i) = omega (arith, slot_among slots i, held x slots)

  -- so are those of two slots
  pub slots_among : (slots : List (Option Packet)) (i j : ℕ) → i ≢ j →
      count_of (get_or slots i None) + count_of (get_or slots j None) ≤ count_by f (segments_held slots)
  slots_among [] i j ne = omega arith
  slots_among (x ∷ slots) zero zero ne = absurd (ne refl)
  slots_among (x ∷ slots) zero (suc j) ne = omega (arith, slot_among slots j, held x slots)
  slots_among (x ∷ slots) (suc i) zero ne = omega (arith, slot_among slots i, held x slots)
  slots_among (x ∷ slots) (suc i) (suc j) ne =
      omega (arith, slots_among slots i j (λ e. ne (omega arith)), held x slots)

-- ---- what holds of all

module _ (P : Segment → Type 0) where
  all_held : (o : Option Packet) (slots : List (Option Packet)) → AllOf P o → AllByRecursion P (segments_held slots) →
      AllByRecursion P (segments_held (o ∷ slots))
  all_held None slots h all = all
  all_held (Some k) slots h all = all_join P k (segments_held slots) h all

  held_first : (o : Option Packet) (slots : List (Option Packet)) → AllByRecursion P (segments_held (o ∷ slots)) → AllOf P o
  held_first None slots all = tt
  held_first (Some k) slots all = all_left P k (segments_held slots) all

  held_rest : (o : Option Packet) (slots : List (Option Packet)) → AllByRecursion P (segments_held (o ∷ slots)) → AllByRecursion P (segments_held slots)
  held_rest None slots all = all
  held_rest (Some k) slots all = all_right P k (segments_held slots) all

  pub all_slot : (slots : List (Option Packet)) (i : ℕ) → AllByRecursion P (segments_held slots) → AllOf P (get_or slots i None)
  all_slot [] i all = tt
  all_slot (x ∷ slots) zero all = held_first x slots all
  all_slot (x ∷ slots) (suc i) all = all_slot slots i (held_rest x slots all)

  pub all_set : (slots : List (Option Packet)) (i : ℕ) (o : Option Packet) → AllOf P o → AllByRecursion P (segments_held slots) →
      AllByRecursion P (segments_held (set slots i o))
  all_set [] i o h all = all
  all_set (x ∷ slots) zero o h all = all_held o slots h (held_rest x slots all)
  all_set (x ∷ slots) (suc i) o h all =
      all_held x (set slots i o) (held_first x slots all) (all_set slots i o h (held_rest x slots all))

-- ---- the three counts

pub mbufs-cons : (s : Segment) (ys : List Segment) (m : Number) → mbufs (s ∷ ys) m ≡ one_if (same_number s.mbuf m) + mbufs ys m
mbufs-cons s ys m = count-cons (λ s. same_number s.mbuf m) s ys

pub indirects-cons : (s : Segment) (ys : List Segment) (m : Number) → indirects (s ∷ ys) m
    ≡ one_if (same_number s.mbuf m && not (same_number s.buffer m)) + indirects ys m
indirects-cons s ys m = count-cons (λ s. same_number s.mbuf m && not (same_number s.buffer m)) s ys

pub mbufs-append : (xs ys : List Segment) (m : Number) → mbufs (xs ++ ys) m ≡ mbufs xs m + mbufs ys m
mbufs-append xs ys m = count-append (λ s. same_number s.mbuf m) xs ys

pub one_at : (n : Number) → one_if (same_number n n) ≡ 1
one_at n = rw same_number_refl

pub mbufs_first : (s : Segment) (ys : List Segment) → mbufs (s ∷ ys) s.mbuf ≡ suc (mbufs ys s.mbuf)
mbufs_first s ys = omega (arith, one_at s.mbuf, mbufs-cons s ys s.mbuf)

pub refs_first : (s : Segment) (ys : List Segment) → refs (s ∷ ys) s.buffer ≡ suc (refs ys s.buffer)
refs_first s ys = omega (arith, one_at s.buffer, refs-cons s ys s.buffer)

pub and_le : (a b : Bool) → one_if (a && b) ≤ one_if a
and_le true true = omega arith
and_le true false = omega arith
and_le false b = omega arith

pub indirects_le : (ss : List Segment) (n : Number) → indirects ss n ≤ mbufs ss n
indirects_le [] n = omega arith
indirects_le (s ∷ ss) n =
    omega (arith, indirects_le ss n, and_le (same_number s.mbuf n) (not (same_number s.buffer n)), mbufs-cons s ss n, indirects-cons s ss n)

pub refs_le : (ss : List Segment) (n : Number) → refs ss n ≤ length ss
refs_le ss n = count_by-le-length (λ s. same_number s.buffer n) ss

-- two lists with the same counts
pub record SameCounts (ss ss' : List Segment) : Type 0 where
  pub mbufs : (n : Number) → mbufs ss' n ≡ mbufs ss n
  pub refs : (n : Number) → refs ss' n ≡ refs ss n
  pub indirects : (n : Number) → indirects ss' n ≡ indirects ss n

abbrev EachCount : List Segment → List Segment → Type 0
EachCount ss ss' = (f : Segment → Bool) → count_by f ss' ≡ count_by f ss

pub each_count : (ss ss' : List Segment) → EachCount ss ss' → SameCounts ss ss'
each_count ss ss' e = record {
  mbufs = λ n. e (λ s. same_number s.mbuf n);
  refs = λ n. e (λ s. same_number s.buffer n);
  indirects = λ n. e (λ s. same_number s.mbuf n && not (same_number s.buffer n));
}

-- putting a packet into an empty slot
pub into_slot : (slots : List (Option Packet)) (h : ℕ) (k : Packet) → h < length slots → get_or slots h None ≡ None →
    SameCounts (k ++ segments_held slots) (segments_held (set slots h (Some k)))
into_slot slots h k b e =
    each_count _ _ (λ f. omega (arith, rw e at (slot_counted f slots h (Some k) b), count-append f k (segments_held slots)))

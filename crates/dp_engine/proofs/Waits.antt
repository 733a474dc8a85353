-- The first packet that waits in a ring.
use Rattle.std.proofs.Common.{◌≡◌, ℕ, suc, ◌+◌, ◌<◌, cond, Bool, true, false, not, List, [], ◌∷◌, length, map, Option, Some, None, refl, sym, ◌∙◌, ap, subst}
use Rattle.std.proofs.Common.{arith}
use Rattle.std.specs.Prelude.{slice_set, option_map, ◌==◌}
use Rattle.std.proofs.lemmas.Bool.{eqb-true}
use Rattle.std.specs.List.{position, position_from}
use Rattle.std.proofs.lemmas.Iterator.Adapters.{position_from-zero}
use Rattle.dp_ring.specs.Rings.{RingView}
use Rattle.dp_engine.specs.Queues.{ring_at, is_waiting}
use Rattle.dp_model.specs.Packets.{Packet}
use Rattle.dp_model.specs.Runs.{beyond, first_waiting}
use Rattle.dp_engine.specs.Handles.{packet_at, packets_listed, entries_of}

-- the packets of rings
abbrev pub in_rings : List (Option Packet) → List RingView → List (List Packet)
in_rings slots rings = packets_listed slots (map entries_of rings)

-- the j-th ring is the first with an entry
pub record IsFirst (slots : List (Option Packet)) (rings : List RingView) (j : ℕ) : Type 0 where
  pub there : j < length rings
  pub is : (h : ℕ) (xs : List ℕ) → (ring_at rings j).entries ≡ h ∷ xs → first_waiting (in_rings slots rings)
      ≡ Some (record { ring = j; packet = packet_at slots h; rings = slice_set (in_rings slots rings) j (map (packet_at slots) xs) })

first_here : (slots : List (Option Packet)) (r : RingView) (rings : List RingView) → IsFirst slots (r ∷ rings) 0
first_here slots r rings = record {
  there = omega arith;
  is = λ h xs at. ap (λ es. first_waiting (map (packet_at slots) es ∷ in_rings slots rings)) at;
}

first_later : (slots : List (Option Packet)) (r : RingView) (rings : List RingView) (j : ℕ) → r.entries ≡ [] → IsFirst slots rings j →
    IsFirst slots (r ∷ rings) (suc j)
first_later slots r rings j none first = record {
  there = omega (arith, first.there);
  is = λ h xs at. (
      let e : first_waiting (in_rings slots (r ∷ rings)) ≡ option_map (beyond []) (first_waiting (in_rings slots rings)) =
      ap (λ es. first_waiting (map (packet_at slots) es ∷ in_rings slots rings)) none in
      let back : [] ≡ map (packet_at slots) r.entries = ap (map (packet_at slots)) (sym none) in
      e ∙ ap (option_map (beyond [])) (first.is h xs at) ∙ ap (λ (l : List Packet).
      Some (record { ring = suc j; packet = packet_at slots h; rings = l ∷ slice_set (in_rings slots rings) j (map (packet_at slots) xs) })) back
      );
}

-- a ring with an entry waits
positive : (n : ℕ) → (suc n == 0) ≡ false
positive n = go (suc n == 0) refl
  where
    go : (b : Bool) → (suc n == 0) ≡ b → (suc n == 0) ≡ false
    go true e = let bad : suc n ≡ 0 = eqb-true (suc n) 0 e in absurd (omega (arith, bad))
    go false e = e

waits : (r : RingView) (h : ℕ) (xs : List ℕ) → r.entries ≡ h ∷ xs → is_waiting r ≡ true
waits r h xs some = ap (λ (es : List ℕ). not (length es == 0)) some ∙ ap not (positive (length xs))

-- what the search returns, from a number on
found_from : (slots : List (Option Packet)) (rings : List RingView) (n i : ℕ) → position_from is_waiting n rings ≡ Some i →
    (j : ℕ) × (i ≡ n + j) × IsFirst slots rings j
found_from slots [] n i e = cc
found_from slots (r ∷ rings) n i e = go r.entries refl (λ later. found_from slots rings (n + 1) i later)
  where
    go : (es : List ℕ) → r.entries ≡ es → (position_from is_waiting (n + 1) rings ≡ Some i → (j : ℕ) × (i ≡ n + 1 + j) × IsFirst slots rings j) →
        (j : ℕ) × (i ≡ n + j) × IsFirst slots (r ∷ rings) j
    go [] none more =
        let later : position_from is_waiting (n + 1) rings ≡ Some i = rw none at e in
        let (j, same, first) = more later in
        (suc j, omega (arith, same), first_later slots r rings j none first)
    go (h ∷ xs) some more =
        let here : Some n ≡ Some i = sym (ap (λ b. cond b (Some n) (position_from is_waiting (n + 1) rings)) (waits r h xs some)) ∙ e in
        (0, omega (arith, one n i here), first_here slots r rings)
      where
        one : (x y : ℕ) → Some x ≡ Some y → y ≡ x
        one x y e = cc

none_from : (slots : List (Option Packet)) (rings : List RingView) (n : ℕ) → position_from is_waiting n rings ≡ None → first_waiting (in_rings slots rings)
    ≡ None
none_from slots [] n e = refl
none_from slots (r ∷ rings) n e = go r.entries refl (λ later. none_from slots rings (n + 1) later)
  where
    go : (es : List ℕ) → r.entries ≡ es → (position_from is_waiting (n + 1) rings ≡ None → first_waiting (in_rings slots rings) ≡ None) →
        first_waiting (in_rings slots (r ∷ rings)) ≡ None
    go [] none more =
        let later : position_from is_waiting (n + 1) rings ≡ None = rw none at e in
        ap (λ es. first_waiting (map (packet_at slots) es ∷ in_rings slots rings)) none ∙ ap (option_map (beyond [])) (more later)
    go (h ∷ xs) some more =
        let bad : Some n ≡ None = sym (ap (λ b. cond b (Some n) (position_from is_waiting (n + 1) rings)) (waits r h xs some)) ∙ e in cc

pub found : (slots : List (Option Packet)) (rings : List RingView) (i : ℕ) → position is_waiting rings ≡ Some i → IsFirst slots rings i
found slots rings i e =
    let (j, same, first) = found_from slots rings 0 i (sym (position_from-zero is_waiting rings) ∙ e) in
    let is : j ≡ i = omega (arith, same) in
    subst (IsFirst slots rings) is first

pub none_waits : (slots : List (Option Packet)) (rings : List RingView) → position is_waiting rings ≡ None → first_waiting (in_rings slots rings) ≡ None
none_waits slots rings e = none_from slots rings 0 (sym (position_from-zero is_waiting rings) ∙ e)

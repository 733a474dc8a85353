-- What a writer is offered of a piece, call by call.
use Rattle.std.proofs.Common.{◌≡◌, ℕ, ◌+◌, ◌<◌, ◌≤◌, List, [], ◌∷◌, ◌++◌, length, drop, refl, sym, arith, append_assoc, length-drop}
use Rattle.std.proofs.lemmas.List.{append-nil, drop-drop}
use Rattle.dp_pcap.specs.Offering.{AreRests, OffersWhole, OffersPart, OffersTwo}

-- one rest more
rests_more : (piece : List ℕ) (from : ℕ) (os : List (List ℕ)) (taken next : ℕ) → AreRests piece from os taken → taken < next →
    AreRests piece from (os ++ drop taken piece ∷ []) next
rests_more piece from [] taken next is less = (rw is, (next, omega arith, refl))
rests_more piece from (o ∷ os) taken next (is, (n, low, more)) less = (is, (n, low, rests_more piece n os taken next more less))

-- the rests of a rest are those of the piece
rests_after : (piece : List ℕ) (k from end : ℕ) (os : List (List ℕ)) → AreRests (drop k piece) from os end → AreRests piece (k + from) os (k + end)
rests_after piece k from end [] is = rw is
rests_after piece k from end (o ∷ os) (is, (n, low, more)) = (rw is (drop-drop from k piece), (k + n, omega arith, rests_after piece k n end os more))

pub more_offered : (old mid new : List (List ℕ)) (piece rest : List ℕ) (at n : ℕ) → (os : List (List ℕ)) × (mid ≡ old ++ os) × AreRests piece 0 os at →
    new ≡ mid ++ rest ∷ [] → rest ≡ drop at piece → 0 < n
    → (os : List (List ℕ)) × (new ≡ old ++ os) × AreRests piece 0 os (at + n)
more_offered old mid new piece rest at n (os, is, rests) one same some = (
  os ++ drop at piece ∷ [],
  rw (one, same, is) (append_assoc old os (drop at piece ∷ [])),
  rests_more piece 0 os at (at + n) rests (omega arith),
)

-- a piece was offered, of which some bytes were taken, and then the rest
module _ (old mid new : List (List ℕ)) (piece rest : List ℕ) (n : ℕ) (first : mid ≡ old ++ piece ∷ []) (some : 0 < n) (within : n ≤ length piece) (same : rest
    ≡ drop n piece) where
  beyond : (os : List (List ℕ)) (end : ℕ) → AreRests rest 0 os end → AreRests piece 0 (piece ∷ os) (n + end)
  beyond os end rests =
      let none : n + 0 ≡ n = omega arith in
      (refl, (n, some, rw none at (rests_after piece n 0 end os (rw same at rests))))

  long : n + length rest ≡ length piece
  long = rw (same, length-drop) (omega arith)

  pub then_whole : OffersWhole mid new rest → OffersWhole old new piece
  then_whole (os, is, rests) = (
    piece ∷ os,
    rw (is, first) (append_assoc old (piece ∷ []) os),
    rw long at (beyond os (length rest) rests),
  )

  pub then_part : OffersPart mid new rest → OffersPart old new piece
  then_part (os, taken, is, less, rests) = (
    piece ∷ os,
    n + taken,
    rw (is, first, same, drop-drop taken n piece) (append_assoc old (piece ∷ []) (os ++ drop (n + taken) piece ∷ [])),
    omega (arith, long),
    beyond os taken rests,
  )

-- two pieces that were offered once each and taken whole
pub both_once : (old new : List (List ℕ)) (first second : List ℕ) → new ≡ (old ++ first ∷ []) ++ second ∷ [] → 0 < length first → 0 < length second →
    OffersTwo old new first second
both_once old new first second is some other = (
  old ++ first ∷ [],
  (first ∷ [], refl, (refl, (length first, some, refl))),
  (second ∷ [], is, (refl, (length second, other, refl))),
)

-- the first alone, where the second is empty
pub first_once : (old new : List (List ℕ)) (first second : List ℕ) → new ≡ old ++ first ∷ [] → 0 < length first → length second ≡ 0 →
    OffersTwo old new first second
first_once old new first second is some none = (new, (first ∷ [], is, (refl, (length first, some, refl))), ([], sym (append-nil new), sym none))

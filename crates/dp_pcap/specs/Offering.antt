-- The offers of a piece: all of it, and then each time the rest that was not taken.
use Rattle.std.specs.Prelude.{◌≡◌, ℕ, ◌<◌, List, [], ◌∷◌, ◌++◌, ◌⊎◌, length, drop}

-- offers of a piece of which n bytes were taken before: what is left of it each time, until m are taken
abbrev pub AreRests : List ℕ → ℕ → List (List ℕ) → ℕ → Type 0
AreRests piece taken [] end = taken ≡ end
AreRests piece taken (offer ∷ offers) end =
    (offer ≡ drop taken piece) × ((next : ℕ) × (taken < next) × AreRests piece next offers end)

-- the offers grew by those of a piece that was taken whole
abbrev pub OffersWhole : List (List ℕ) → List (List ℕ) → List ℕ → Type 0
OffersWhole old new piece = (offers : List (List ℕ)) × (new ≡ old ++ offers) × AreRests piece 0 offers (length piece)

-- the offers grew by those of a piece that was taken in part, whose rest was offered in vain
abbrev pub OffersPart : List (List ℕ) → List (List ℕ) → List ℕ → Type 0
OffersPart old new piece =
    (offers : List (List ℕ)) × (taken : ℕ) × (new ≡ old ++ (offers ++ drop taken piece ∷ [])) × (taken < length piece) × AreRests piece 0 offers taken

-- the offers grew by those of two pieces that were taken in part
abbrev pub OffersPartOfTwo : List (List ℕ) → List (List ℕ) → List ℕ → List ℕ → Type 0
OffersPartOfTwo old new first second =
    OffersPart old new first ⊎ ((between : List (List ℕ)) × OffersWhole old between first × OffersPart between new second)

-- the offers grew by those of two pieces that were taken whole
abbrev pub OffersTwo : List (List ℕ) → List (List ℕ) → List ℕ → List ℕ → Type 0
OffersTwo old new first second = (between : List (List ℕ)) × OffersWhole old between first × OffersWhole between new second

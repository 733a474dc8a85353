-- Lists the lemma files.
pub mod AtHand
pub mod CountLemmas
pub mod Fills
pub mod Pieces
pub mod Known
pub mod History
pub mod Endings
pub mod Once
pub mod Back
pub mod Refusals
pub mod OfferLemmas
pub mod Offering
pub mod Counting

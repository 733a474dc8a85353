pub mod CopiedUses
pub mod Seen
pub mod TwoClones

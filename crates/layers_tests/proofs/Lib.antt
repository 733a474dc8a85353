-- The lemmas of layers_tests.
pub mod Copying
pub mod RowLemmas

-- Lemmas of the program's counts.
pub mod CountLemmas

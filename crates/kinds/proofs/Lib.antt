-- Lemmas for the proofs of `kinds`.
pub mod Reading
pub mod Filling

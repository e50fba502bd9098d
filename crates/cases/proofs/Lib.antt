-- Lemmas for the proofs of `cases`.
pub mod Running

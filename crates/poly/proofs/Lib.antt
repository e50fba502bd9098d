-- Lemmas for the proofs of `poly`.
pub mod Convolutions
pub mod Windows
pub mod Halves
pub mod Exact
pub mod Folded
pub mod Made

-- The lemmas that the proofs of `text` share.
mod Cutting
mod Lining
mod Placing
mod Steps

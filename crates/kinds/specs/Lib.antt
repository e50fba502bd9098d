-- The definitions that the contracts of `kinds` cite, and the laws of W.
pub mod Refusals
pub mod Ring
pub mod Words
pub mod Bits
pub mod BitLaws

-- The definitions that the contracts of `poly` cite, and the laws of Q and T.
pub mod Modulus
pub mod Sizes
pub mod Integers
pub mod Reduced
pub mod Lists
pub mod Elements
pub mod Quotient
pub mod Laws
pub mod Lanes
pub mod Centred

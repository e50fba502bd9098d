-- The laws of reduced polynomials.
pub mod Rings
pub mod Acting
pub mod Folding
pub mod Quotients
pub mod Coefficients

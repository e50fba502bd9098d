-- Polynomials of any degree, and their reduction.
pub mod Polynomials
pub mod Reduction

-- The definitions that the contracts of `programs` cite.
pub mod Explaining
pub mod Serving

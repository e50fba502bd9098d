-- The definitions that the contracts of `text` cite.
pub mod Cuts
pub mod Lines
pub mod Numbers
pub mod Places
pub mod Readings
pub mod Shown
pub mod Tokens

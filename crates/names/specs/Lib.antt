-- The definitions that the contracts of `names` cite.
pub mod Names

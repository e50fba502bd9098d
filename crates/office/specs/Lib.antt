-- The definitions that the contracts of `office` cite.
pub mod Answers
pub mod Explaining
pub mod Headers
pub mod Report
pub mod Requests
pub mod Sums
pub mod Troubles

-- The definitions that the contracts of `cases` cite.
pub mod Answers
pub mod Explaining
pub mod Questions
pub mod Results
pub mod Troubles

-- The answers of calls that write one buffer, from how they went.
pub mod Answers

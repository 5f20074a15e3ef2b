-- The definitions of this crate, a file for each idea. They rest on those of the crates below.
pub mod Reading
pub mod Outcome
pub mod LaidOut
pub mod Unreadable

-- The definitions of this crate, a file for each idea. They rest on those of the crates below.
pub mod Magics
pub mod Beginnings
pub mod Withdrawn

-- The definitions of this crate, a file for each idea. They rest on those of the crates below.
pub mod Reads
pub mod Laying
pub mod Outcome
pub mod Writable
pub mod ReadBack
pub mod Described
-- what only contracts of inner functions speak of
pub mod Inner

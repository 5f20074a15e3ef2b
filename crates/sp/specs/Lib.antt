-- The definitions of this crate, a file for each idea. They rest on those of the crates below.
pub mod Runs
pub mod ReadLists
pub mod Readings
pub mod Whole
pub mod Outcome
pub mod Written
pub mod Longer
-- what only contracts of inner functions speak of
pub mod Inner

-- The definitions of this crate, a file for each idea. They rest on those of the crates below.
pub mod Records
pub mod Walk
pub mod Lacking
pub mod Outcome
-- what only contracts of inner functions speak of
pub mod Inner

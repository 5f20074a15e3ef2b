-- The definitions of this crate, a file for each idea. They rest on those of the crates below.
pub mod State
pub mod Calls
pub mod History
pub mod Agreement
pub mod Complete
-- what only contracts of inner functions speak of
pub mod Inner

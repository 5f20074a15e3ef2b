-- The definitions of this crate, a file for each idea. They rest on those of the crates below.
pub mod Words
pub mod Entries
pub mod Described
pub mod Index
pub mod Held
-- what only contracts of inner functions speak of
pub mod Inner

-- The definitions of this crate, a file for each idea. They rest on those of the crates below.
pub mod Header
pub mod Laid
-- what only contracts of inner functions speak of
pub mod Inner

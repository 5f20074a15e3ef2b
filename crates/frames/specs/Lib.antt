-- The definitions of this crate, a file for each idea. They rest on those of the crates below.
pub mod Start
pub mod Frames
pub mod Fetch
pub mod Cut
-- what only contracts of inner functions speak of
pub mod Inner

-- The definitions of this crate. They rest on those of the crates below.
pub mod Joined
-- what only contracts of inner functions speak of
pub mod Inner

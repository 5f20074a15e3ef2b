-- The definitions of this crate, a file for each idea. They rest on those of the crates below.
pub mod Finding
pub mod Packet
pub mod Agreement
-- what only contracts of inner functions speak of
pub mod Inner

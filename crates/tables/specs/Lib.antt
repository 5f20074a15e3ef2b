-- The definitions of this crate, a file for each idea. They rest on those of the crates below.
pub mod Table
pub mod Counting
pub mod Leading
pub mod Lent
pub mod Settled
pub mod Entries
-- what only contracts of inner functions speak of
pub mod Inner

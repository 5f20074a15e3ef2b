-- The definitions of this crate, a file for each idea. They rest on those of the crates below.
pub mod Version
pub mod Wrapped
pub mod Unread
pub mod Refusals
pub mod Hosted
pub mod Announced

-- The definitions of this crate. They rest on those of the crates below.
pub mod Admissions
pub mod Payload

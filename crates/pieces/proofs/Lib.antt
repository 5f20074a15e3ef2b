-- Laws of this crate, a file for each matter. They rest on the definitions in specs/ and on the laws of the crates below.
pub mod Sources
pub mod Surveying
pub mod Leaving
pub mod Judging
pub mod Absorbing

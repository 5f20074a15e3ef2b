-- Laws of this crate, a file for each matter. They rest on the definitions in specs/ and on the laws of the crates below.
pub mod Refusing
pub mod Settled
pub mod Theorems
pub mod AtOnce
pub mod Indexed
pub mod Unread
pub mod Lacking
pub mod Hosted
pub mod Counted
pub mod Complete
pub mod Announced
pub mod Fitting
pub mod Written

-- Laws of this crate. They rest on the definitions in specs/.
pub mod Names
pub mod Beginnings
pub mod Withdrawn

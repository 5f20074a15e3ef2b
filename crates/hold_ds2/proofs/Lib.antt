-- The laws that belong to no one function. They rest on the definitions of the crate hold.
pub mod Walks
pub mod Ds2Block

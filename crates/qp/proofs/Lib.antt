-- The laws and theorems that belong to no one function. They rest on the definitions in specs/.
pub mod Gathers
pub mod Blockwise
pub mod Kept
pub mod Outcome
pub mod Theorems

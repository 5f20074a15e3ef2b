-- The laws and theorems that belong to no one function. They rest on the definitions in specs/.
pub mod Runs
pub mod ReadLists
pub mod Sourced
pub mod Written
pub mod Blockwise
pub mod Outcome
pub mod Longer
pub mod Alike
pub mod Theorems
pub mod Whole
pub mod Wrong

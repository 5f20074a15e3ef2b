-- The laws and theorems that belong to no one function. They rest on the definitions in specs/.
pub mod Halving
pub mod Last
pub mod Searching
pub mod Carried
pub mod Theorems

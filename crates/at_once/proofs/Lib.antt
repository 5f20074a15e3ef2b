-- The laws and theorems that belong to no one function. They rest on the definitions in specs/.
pub mod Straight
pub mod Outcome
pub mod One
pub mod Theorems

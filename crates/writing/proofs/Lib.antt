-- The laws and theorems that belong to no one function. They rest on the definitions in specs/.
pub mod Inverse
pub mod Laying
pub mod Turns
pub mod Outcome
pub mod ReadBack
pub mod Described
pub mod Theorems
pub mod Exactly

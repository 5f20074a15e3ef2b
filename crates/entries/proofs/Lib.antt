-- The laws and theorems that belong to no one function. They rest on the definitions in specs/.
pub mod Words
pub mod Entries
pub mod Laying
pub mod Held
pub mod Blockwise
pub mod Described

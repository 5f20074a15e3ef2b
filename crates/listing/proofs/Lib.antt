-- The laws and theorems that belong to no one function. They rest on the definitions in specs/.
pub mod Decimal
pub mod Text
pub mod Theorems

-- The laws and theorems that belong to no one function. They rest on the definitions in specs/.
pub mod Cases
pub mod Lent
pub mod Entries
pub mod Parts
pub mod Table
pub mod Counting
pub mod Leading
pub mod Tests
pub mod Search

-- The laws and theorems that belong to no one function. They rest on the definitions in specs/ and on the laws of the crates below.
pub mod Admissions
pub mod Payloads
pub mod Refusing
pub mod Alike
pub mod Settled

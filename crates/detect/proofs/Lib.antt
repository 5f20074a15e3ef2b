-- The laws and theorems that belong to no one function. They rest on the definitions in specs/.
pub mod Format
pub mod Header
pub mod Types
pub mod Start
pub mod Settled
pub mod Rules

-- The laws and theorems that belong to no one function. They rest on the definitions in specs/.
pub mod Framed
pub mod Building
pub mod Reading
pub mod LaidOut
pub mod Theorems

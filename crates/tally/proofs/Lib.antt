-- The laws and theorems that belong to no one function. They rest on the definitions in specs/.
pub mod Packetwise
pub mod Past
pub mod Runwise
pub mod Segmentwise
pub mod Recordwise
pub mod Ways
pub mod Agreeing
pub mod Refusing
pub mod Theorems

-- The laws and theorems that belong to no one function. They rest on the definitions in specs/.
pub mod Gathered
pub mod Longer
pub mod Packets
pub mod Reaches
pub mod Start
pub mod Walk
pub mod Unswapped

-- The laws and theorems that belong to no one function. They rest on the definitions in specs/.
pub mod Start
pub mod Frames
pub mod Fetch
pub mod Shown
pub mod Cut
pub mod Theorems

-- The laws and theorems that belong to no one function. They rest on the definitions in specs/.
pub mod Frames
pub mod Files
pub mod Admitted
pub mod Steps

-- The laws and theorems that belong to no one function. They rest on the definitions in specs/.
pub mod Files
pub mod QpFiles
pub mod Qp7Files
pub mod Held

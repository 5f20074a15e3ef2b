-- The laws and theorems that belong to no one function. They rest on the definitions in specs/.
pub mod Headers
pub mod Places
pub mod Stream
pub mod Alike

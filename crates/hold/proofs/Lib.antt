-- The laws and theorems that belong to no one function. They rest on the definitions in specs/.
pub mod Ready
pub mod Front
pub mod Carries
pub mod Longer
pub mod Moving
pub mod Windows
pub mod Through
pub mod Headers
pub mod Leaving
pub mod Partwise
pub mod Queue
pub mod Numbers
pub mod Adding

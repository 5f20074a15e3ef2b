-- The laws and theorems that belong to no one function. They rest on the definitions in specs/.
pub mod Records
pub mod Standing
pub mod Closing
pub mod Reading
pub mod Blockwise
pub mod Gathering
pub mod Outcome
pub mod Keeping
pub mod Lying
pub mod Shares
pub mod Words
pub mod Refusing
pub mod Lacking
pub mod Stopping
pub mod Theorems

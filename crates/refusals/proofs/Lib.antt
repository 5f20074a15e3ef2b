-- The laws and theorems that belong to no one function. They rest on the definitions in specs/.
pub mod Said
pub mod Numbered
pub mod Results

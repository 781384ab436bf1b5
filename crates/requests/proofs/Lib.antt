pub mod Requests
pub mod Readings
pub mod Theorems
pub mod Unique
pub mod Table

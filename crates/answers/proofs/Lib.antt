pub mod Denials
pub mod Answers
pub mod Readings
pub mod Theorems
pub mod Worked
pub mod Limits
pub mod Unique

pub mod Fields
pub mod Entries
pub mod Bodies
pub mod Unique
pub mod Table

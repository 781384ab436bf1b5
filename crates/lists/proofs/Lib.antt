pub mod Walks
pub mod Lists
pub mod Handed
pub mod Unique
pub mod Table

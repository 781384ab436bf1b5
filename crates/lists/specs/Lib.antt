pub mod Handed
pub mod View

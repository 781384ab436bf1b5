pub mod Entry
pub mod View

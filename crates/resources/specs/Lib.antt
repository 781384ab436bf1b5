pub mod Resource
pub mod View

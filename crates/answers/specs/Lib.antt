pub mod Denial
pub mod Answer
pub mod View

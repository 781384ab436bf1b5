pub mod Reading
pub mod Length
pub mod Number
pub mod Layout
pub mod Area
pub mod Frame
pub mod View

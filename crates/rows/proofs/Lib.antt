-- `Places`: lists cut around a place. `Keys`: lists whose elements have a number. `Moves`: loops that write a slice. `Images`: what a list of anything
-- stands for. `Rows`: the table's words and its slots. `Table`: the definitions at their boundaries.
pub mod Places
pub mod Keys
pub mod Moves
pub mod Images
pub mod Rows
pub mod Table

-- `Keyed`: lists whose elements have a number. `Image`: what a list of anything stands for in a slice of numbers. `Row`: a slot and its eight words.
pub mod Keyed
pub mod Image
pub mod Row

-- `Result`: the number that each function gives. `Slices`: the unit's memory, as its owner lends it. `Calls`: what start, respond and fit do. `Gate`: what the gate's
-- writers and readers do.
pub mod Result
pub mod Slices
pub mod Calls
pub mod Gate

-- The definitions by themselves: `Told`, what a verdict tells; `Valid`, units in order, kept so by every step; `Located`, where the areas stand; `Theorems` and
-- `History`, what is said of the operations and of sequences of them; `Table`, the definitions at their boundaries. With head, table and memory: `Areas`, the
-- memory; `States`, what they tell of the unit and what they stand for after a change; `Ways`, by the way that an operation goes; `Sound`, start and operations give
-- sound units; `Unique`, each promise leaves one outcome.
pub mod Told
pub mod Valid
pub mod Located
pub mod Theorems
pub mod History
pub mod Table
pub mod Areas
pub mod States
pub mod Ways
pub mod Sound
pub mod Unique

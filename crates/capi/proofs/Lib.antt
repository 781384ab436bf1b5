-- `Unique`: each promise leaves one outcome, and what start, respond and fit leave is what respond and fit ask.
-- `Refusals`: a refusal touches nothing. `Table`: the definitions at their boundaries. Then what the functions' proofs
-- cite: `Short`: no message is longer than the number can tell; `Units`: slices and the unit that they stand for. Last
-- the same over free numbers and lists: `Results`: the number of a refusal; `Words`: slices that are filled; `Heads`:
-- five words and the head that they are; `Gates`: what the writers and the readers give.
pub mod Unique
pub mod Refusals
pub mod Table
pub mod Short
pub mod Units
pub mod Results
pub mod Words
pub mod Heads
pub mod Gates

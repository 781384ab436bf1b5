-- `Respond`: what the unit replies to a request, and the unit that it leaves. `Entry`: what the entry's promise says of result, answer area, table and memory.
-- `Demands`: the three demands, to be read from top to bottom. `Log`: the store's calls that commands amount to.
pub mod Respond
pub mod Entry
pub mod Demands
pub mod Log

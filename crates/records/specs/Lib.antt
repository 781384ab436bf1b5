-- `Text`: numbers, octets and lines as text. `Record`: what octets are from the start of a record on. `Output`: the whole output for a whole input. `Turn`: one turn of the
-- program. `Loop`: its turns one after another. `Entry`: what the entry's promise says.
pub mod Text
pub mod Record
pub mod Output
pub mod Turn
pub mod Loop
pub mod Entry

-- `Model`: the unit as document 01 has it, and the table and memory that stand for it. `Steps`: what each operation answers and does. `Answers`: what the answers say.
-- `History`: sequences of operations. `Raw`: what the private functions do, by words and octets.
pub mod Model
pub mod Steps
pub mod Answers
pub mod History
pub mod Raw

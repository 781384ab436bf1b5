-- `Denial`: the numbers of denials, and verdicts by number. `Mode`: the codes of modes. `Want`: what the unit knows of a tag, and what an operation wants.
-- `Admission`: who may do what with a tag, in one definition for every operation.
pub mod Denial
pub mod Mode
pub mod Want
pub mod Admission

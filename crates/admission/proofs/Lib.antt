-- `Admitted`: what each verdict tells of its operation. `Unique`: the number of a denial tells which it is. `Table`: verdicts at the boundaries of every rule.
pub mod Admitted
pub mod Unique
pub mod Table

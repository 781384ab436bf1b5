-- To be read in this order. `Demands`: the three demands, each with its proof. Of demand 1, `Refusals`: what a refusal
-- leaves, and which numbers it may have, by `Statuses`. Of demand 2, `Readable`: every reply reads back, since each may
-- be written, by `Writable`; `Starred`, `Known`, `Runs`, `Cases`: exchanges that compute; `Table`: what none of them
-- comes to; `Excluded`: responders that do not meet the definition. Of demand 3, `Secret`: two units and the same
-- commands, by `Alike`, of the store's steps. Of logs, `Kept`: a unit in order stays in order; `Log`: the store's calls
-- that commands amount to. `Lines`: the lines before the body, and the operation types that are fitted. Then what the
-- functions' proofs cite: `Sends`: an answer is written whole, and a denial not yet; `Shown`: what a read tells;
-- `Walks`, `Lists`: a request's list, entry by entry and whole; `Grown`: arrays as they grow; `Tells`, `Chooses`,
-- `Writes`: resource information, bulk read and bulk write; `Performs`: from an operation's reply to a request's.
pub mod Demands
pub mod Refusals
pub mod Statuses
pub mod Readable
pub mod Writable
pub mod Starred
pub mod Known
pub mod Runs
pub mod Cases
pub mod Table
pub mod Excluded
pub mod Secret
pub mod Alike
pub mod Kept
pub mod Log
pub mod Lines
pub mod Sends
pub mod Shown
pub mod Walks
pub mod Lists
pub mod Grown
pub mod Tells
pub mod Chooses
pub mod Writes
pub mod Performs

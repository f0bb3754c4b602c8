-- What clauses of private functions name. No public clause rests on it, so nobody has to believe it.
pub mod Added
pub mod Calls
pub mod Causes
pub mod Givers
pub mod Persons
pub mod Shown
pub mod TrailAdded
pub mod Transactions

mod Statements
mod Making
mod Transactions
mod Asking
mod FaultLemmas
mod RowLemmas
pub mod KnownValues
pub mod OwedLemmas

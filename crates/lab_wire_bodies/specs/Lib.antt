pub mod Accounts
pub mod Bodies
pub mod Forms
pub mod Foundings
pub mod Records
pub mod Signatures

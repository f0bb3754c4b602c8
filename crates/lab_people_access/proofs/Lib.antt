pub mod PasswordWords
pub mod PersonWords
pub mod KnownValues

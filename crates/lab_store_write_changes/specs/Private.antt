-- What clauses of private functions name. No public clause rests on it, so nobody has to believe it.
pub mod EntriesAdded
pub mod FieldsShown
pub mod FormsAdded
pub mod FormsShown
pub mod Framed
pub mod Statements
pub mod Texts
pub mod VersionsShown

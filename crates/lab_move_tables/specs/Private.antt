-- What clauses of private functions name. No public clause rests on it, so nobody has to believe it.
pub mod Orders
pub mod Reading
pub mod Tests
pub mod Within

-- What clauses of private functions name. No public clause rests on it, so nobody has to believe it.
pub mod HostFaults

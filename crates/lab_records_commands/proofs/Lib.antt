pub mod Cuts
pub mod MadeBefore

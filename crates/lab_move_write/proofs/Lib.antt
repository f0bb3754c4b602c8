mod Faults
mod MadeTables
mod NamingLemmas
mod Statements
pub mod Carried
pub mod Causes
pub mod Comings
pub mod Commits
pub mod ExactForm
pub mod GivenUp
pub mod LabPlaced
pub mod Orders
pub mod OwnRow
pub mod PlacingWords
pub mod RecordWhole
pub mod RecordWholeKept
pub mod Refusals
pub mod SignaturesInTurn
pub mod Turns
pub mod VersionWhole
pub mod VersionsInTurn
pub mod Whole
pub mod WholeLab
pub mod Wholes

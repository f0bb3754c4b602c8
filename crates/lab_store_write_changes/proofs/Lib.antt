mod FramedSteps
mod KnownSteps
mod Positions
mod Steps
pub mod Added
pub mod AllRows
pub mod Beside
pub mod EntryKeyLemmas
pub mod EntryWrites
pub mod Failures
pub mod FieldsShownWords
pub mod FormKeyLemmas
pub mod FormWrites
pub mod FormsInTurn
pub mod KnownChanges
pub mod KnownEntries
pub mod KnownForms
pub mod KnownNewborns
pub mod KnownRecords
pub mod KnownTried
pub mod LabMore
pub mod Leaving
pub mod RecordKeyLemmas
pub mod RecordWrites
pub mod RecordsInTurn
pub mod Trying
pub mod Unversioned
pub mod VersionKeyLemmas
pub mod VersionsShownWords

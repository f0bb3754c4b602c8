pub mod ActionWords
pub mod Exact
pub mod Keys
pub mod KnownTrails
pub mod Texts
pub mod TrailCauses
pub mod TrailsFound

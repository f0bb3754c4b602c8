pub mod Origins
pub mod Seals
pub mod States
pub mod Versions

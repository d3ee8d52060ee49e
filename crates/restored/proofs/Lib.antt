pub mod Lines
pub mod Fixed
pub mod Played
pub mod Restored
pub mod Editions

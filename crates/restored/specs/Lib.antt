pub mod Restored
pub mod Editions

pub mod Fills
pub mod Holders

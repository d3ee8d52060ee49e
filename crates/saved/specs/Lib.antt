pub mod Saved
pub mod Laws

pub mod Loops
pub mod Fits
pub mod Stops

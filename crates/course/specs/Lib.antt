pub mod Points
pub mod Course
pub mod Follows
pub mod Outputs
pub mod Plain
pub mod Editions
pub mod Ramps

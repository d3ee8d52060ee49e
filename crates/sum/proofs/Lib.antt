pub mod Floors
pub mod Fractions
pub mod Samples
pub mod Editions
pub mod Sides
pub mod Machine
pub mod Starred

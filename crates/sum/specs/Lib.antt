pub mod Floor
pub mod Fraction
pub mod Sample
pub mod Product
pub mod Order
pub mod Ramp
pub mod Editions
pub mod Starred

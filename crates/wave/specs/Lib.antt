pub mod Sine
pub mod Laws

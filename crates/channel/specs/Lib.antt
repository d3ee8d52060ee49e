pub mod Ramp
pub mod Signal
pub mod Channel

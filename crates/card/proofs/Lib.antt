pub mod All
pub mod Resets
pub mod Ticks

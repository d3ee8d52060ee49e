pub mod Card
pub mod Active
pub mod Trigger
pub mod Tick
pub mod Reset

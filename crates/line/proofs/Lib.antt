pub mod Heads
pub mod Frames
pub mod Flows
pub mod Session
pub mod Told

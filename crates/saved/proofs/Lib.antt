pub mod Text
pub mod Frames
pub mod Spans
pub mod Covered

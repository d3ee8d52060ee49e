pub mod Rows
pub mod Order
pub mod Blocks
pub mod Regions
pub mod Values
pub mod Listed
pub mod Worked
pub mod Room

pub mod Register
pub mod Map
pub mod Settings
pub mod Addresses

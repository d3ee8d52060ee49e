pub mod Sizes
pub mod Split
pub mod Number
pub mod Every
pub mod Place

pub mod Word
pub mod Transfer

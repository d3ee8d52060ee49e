pub mod Word
pub mod Table
pub mod Copy
pub mod Every

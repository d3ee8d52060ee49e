pub mod Search
pub mod Points
pub mod Right

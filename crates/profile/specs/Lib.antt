pub mod Profile
pub mod Points
pub mod Laws

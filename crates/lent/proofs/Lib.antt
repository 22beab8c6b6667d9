pub mod Entering
pub mod Structs
pub mod Ways
pub mod Laws
pub mod Stepping

pub mod Diagnostics
pub mod Lent
pub mod Laws

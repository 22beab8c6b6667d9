pub mod Numbers
pub mod Pads
pub mod Trips
pub mod Sums
pub mod Writes
pub mod Fronts
pub mod Codes
pub mod Pushes
mod Examples

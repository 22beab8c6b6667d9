pub mod Bytes
pub mod Layout
pub mod Range
pub mod Agree
pub mod Lent
pub mod Said
pub mod Finding
pub mod Totals

pub mod Encoding
pub mod Constraint
pub mod Constant
pub mod Bodies
pub mod Whole
pub mod Annotated
pub mod Code
pub mod Agrees

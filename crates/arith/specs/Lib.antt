pub mod Word
pub mod Checked

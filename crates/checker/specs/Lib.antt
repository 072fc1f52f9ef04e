pub mod Sweeps
pub mod Checked

pub mod Room
pub mod Text
pub mod Lines
pub mod Runs
pub mod Beyond

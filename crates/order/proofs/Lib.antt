pub mod Scans
pub mod Takes
pub mod Bits
pub mod Masking
pub mod Means

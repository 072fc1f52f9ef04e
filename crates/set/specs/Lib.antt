pub mod ReadSet
pub mod Opened

pub mod Copying
pub mod Hosting

pub mod Laws
pub mod Means

pub mod Refusing
pub mod Indexing
pub mod Calling
pub mod Deciding
pub mod Performing
pub mod Entering
pub mod Demanded

pub mod Laws
pub mod OneProof
pub mod Skipping
pub mod Asserted
pub mod Tracking
pub mod Means

pub mod Answers
pub mod Carried
pub mod Opened
pub mod OneProof
pub mod Promises
pub mod Telling

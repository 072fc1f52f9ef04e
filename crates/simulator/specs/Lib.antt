pub mod Walks
pub mod StepIndex
pub mod RunIndex

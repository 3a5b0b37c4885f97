pub mod Counting
pub mod LineSteps
pub mod Walks

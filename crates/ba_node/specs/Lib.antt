pub mod Answers
pub mod Counts
pub mod Keeping
pub mod Loading
pub mod Nodes
pub mod inside

pub mod Beginnings
pub mod Commits
pub mod Enacting
pub mod Kept
pub mod Stored

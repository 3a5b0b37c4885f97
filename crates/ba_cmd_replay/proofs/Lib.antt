pub mod Breaks
pub mod Counts
pub mod Endings
pub mod Promised
pub mod SafeScripts
pub mod Shown
pub mod Stories
pub mod WholeStories

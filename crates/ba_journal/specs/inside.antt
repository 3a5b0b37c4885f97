pub mod Appending
pub mod Blocks
pub mod Looks
pub mod Syncing

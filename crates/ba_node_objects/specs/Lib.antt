pub mod Changes
pub mod Finds
pub mod Objects
pub mod inside

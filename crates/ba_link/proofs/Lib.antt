pub mod Begins
pub mod Everywhere
pub mod Kept
pub mod Table

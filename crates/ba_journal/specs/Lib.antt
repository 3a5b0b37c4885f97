pub mod Frames
pub mod Journals
pub mod Loads
pub mod Readings
pub mod Scans
pub mod inside

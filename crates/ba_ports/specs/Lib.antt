pub mod Causes
pub mod Counts
pub mod Disk
pub mod Inputs
pub mod Lines
pub mod Outputs
pub mod Streams
pub mod Whole

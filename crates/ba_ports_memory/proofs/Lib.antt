pub mod DiskCalls
pub mod MediumKept
pub mod Turns

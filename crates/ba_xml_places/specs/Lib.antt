pub mod Cuts
pub mod Limits
pub mod inside

pub mod Proposals
pub mod inside

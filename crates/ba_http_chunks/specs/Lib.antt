pub mod Chunked
pub mod Transfers
pub mod inside

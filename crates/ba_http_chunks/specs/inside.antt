pub mod Progress
pub mod Trailers

pub mod Elements
pub mod Envelopes

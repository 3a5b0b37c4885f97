pub mod Actions
pub mod Bodies
pub mod Contexts
pub mod Elements
pub mod Envelopes
pub mod Faults
pub mod Meaning
pub mod Routes

pub mod Due
pub mod Moments

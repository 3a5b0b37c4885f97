pub mod Fitness
pub mod inside

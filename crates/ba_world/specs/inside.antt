pub mod Deliveries
pub mod Shown
pub mod Stages

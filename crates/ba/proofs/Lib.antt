pub mod NoteLemmas
pub mod Statuses

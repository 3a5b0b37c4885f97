pub mod CallCases
pub mod CallLemmas
pub mod OpeningLemmas
pub mod ReplayLemmas
pub mod ScopeLemmas
pub mod StartLemmas

pub mod DueLemmas
pub mod FirstLemmas
pub mod RowLemmas
pub mod TournamentLemmas

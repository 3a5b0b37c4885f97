pub mod PathLemmas
pub mod RoutingLemmas

mod DeviceLemmas
mod FaultLemmas
pub mod IndexLemmas
mod NameLemmas
pub mod PieceLemmas

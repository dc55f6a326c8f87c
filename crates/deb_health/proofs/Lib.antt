pub mod CauseLemmas
pub mod CoreLemmas
pub mod HealthLemmas

pub mod Health
pub mod Causes
pub mod Verdicts

pub mod Encoders
pub mod Exclusions
pub mod Play

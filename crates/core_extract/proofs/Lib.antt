pub mod Cores
pub mod Kept
pub mod NextOf

pub use Rattle.run_settings.specs.Settings
pub mod Faults
pub mod Inputs
pub mod Pieces
pub mod Names

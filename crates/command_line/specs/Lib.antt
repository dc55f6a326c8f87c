pub use Rattle.run_settings.specs.Settings
pub mod Line

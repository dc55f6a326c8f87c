pub mod Causes
pub mod Numbering
pub mod Wrongs
pub mod Gathering
pub mod Near

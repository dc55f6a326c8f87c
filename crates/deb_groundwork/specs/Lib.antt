-- what contracts of deb_verdict cite, too
pub mod BaseSets
pub mod Parts
-- ---- the inside
pub mod Groundwork

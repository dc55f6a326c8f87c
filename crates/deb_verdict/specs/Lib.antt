-- what public contracts cite, with the definitions of deb_health
pub mod Closure
-- ---- the inside: what contracts of single functions cite
pub mod Formulas

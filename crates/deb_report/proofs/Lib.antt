mod JoinLemmas
mod ReportLemmas
mod SoughtLemmas
mod AskedLemmas
mod FindLemmas
mod MarkLemmas
pub mod ShownLemmas
pub mod FormLemmas
pub mod HitLemmas
mod OwnLemmas
pub mod TextLemmas
pub mod WalkLemmas
mod WalkTextLemmas

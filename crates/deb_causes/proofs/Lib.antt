pub mod CauseOrder
pub mod CoreLemmas
pub mod FirstOnes
mod FreedLaw
pub mod GatheringLemmas
pub mod GatheredCauses
pub mod NumberingLemmas
pub mod SaidLemmas
pub mod PartLemmas
pub mod WrongsLemmas
mod NearLemmas
pub mod SimilarLemmas
mod StemLemmas
pub mod MissingLemmas

mod LeadLemmas
pub mod GatheringLemmas
pub mod SameLemmas
pub mod WordNumberLemmas
pub mod RangesLemmas

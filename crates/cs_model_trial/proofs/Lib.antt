pub mod SummaryLemmas
pub mod TrialExamples

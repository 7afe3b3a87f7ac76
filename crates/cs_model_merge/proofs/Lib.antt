pub mod MergeExamples
pub mod MergeLemmas

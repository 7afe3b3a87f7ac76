pub mod FileRuleLemmas
pub mod MergingLemmas
pub mod MergedWordLemmas

pub mod Merging
pub mod Vocabularies

pub mod ExcerptLaws
pub mod ExcerptReplies
pub mod Excerpts
pub mod OwnWords
pub mod Runs

pub mod ChangesLemmas
pub mod JoinedLemmas

pub mod SharedLemmas
pub mod JoinLemmas

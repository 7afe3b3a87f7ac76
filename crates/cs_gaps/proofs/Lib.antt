pub mod CodesLemmas
pub mod Examples
pub mod PassLemmas

pub mod FrontLemmas
pub mod SlotLemmas

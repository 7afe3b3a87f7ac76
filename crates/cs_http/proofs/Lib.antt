pub mod HeadLemmas
pub mod LookLemmas
pub mod OpenLemmas
pub mod PushedLines
pub mod RequestLemmas
pub mod WrapLemmas

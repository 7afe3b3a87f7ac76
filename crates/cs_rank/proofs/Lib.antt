pub mod Climbs
pub mod GroupsLemmas
pub mod KeptLemmas
pub mod Lookups
pub mod ScorePlaces
pub mod Puts
pub mod Absorbs

pub mod JoinedEntries
pub mod Lasts
pub mod Narrowing
pub mod Prefixes
pub mod Verdicts

pub mod Shared
pub mod Marked
pub mod SharedLaws
